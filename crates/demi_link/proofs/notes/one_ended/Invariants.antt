use Rattle.std.proofs.Common.{◌++◌, ◌∷◌, []}
use Rattle.demi_spec.specs.Request.{End}
use Rattle.demi_spec.specs.Input.{Request_of}
use Rattle.demi_link.proofs.notes.one_ended.Given as goal

abbrev pub ghost-from : goal.ghost-from
ghost-from a = record a._first.now.value { handed = a._first.now.value.handed ++ End ∷ []; request = Request_of End }
