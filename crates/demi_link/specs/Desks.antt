-- A link's struct as its value.
use Rattle.demi_link.specs.Talks.{DeskValue}
use Rattle.demi_link.specs.declared.desk.Desk.{Desk}

abbrev pub desk_of : Desk → DeskValue
desk_of d = record { link = d.link; worker = d.worker; index = d.index; decoder = d.decoder; talk = d.talk.value }
