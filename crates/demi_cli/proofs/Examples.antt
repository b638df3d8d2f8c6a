-- The lines of worked logs, computed.
use Rattle.std.proofs.Common.{◌≡◌, [], ◌∷◌, refl}
use Rattle.std.specs.Prelude.{codes}
use Rattle.std.specs.Fmt.{digits}
use Rattle.hex.specs.Hex.{encode_with}
use Rattle.demi_cli.specs.Lines.{log_lines}

-- a log of no records
none : log_lines [] ≡ codes "records 0\n"
unfolding digits
none = refl

-- a log in which link 0 put 1 and then 2 under `a`
two : log_lines (record { link = 0; index = 0; key = 97 ∷ []; value = 49 ∷ [] } ∷ record { link = 0; index = 2; key = 97 ∷ []; value = 50 ∷ [] } ∷ [])
    ≡ codes "1 link 0 index 0 key 61 value 1\n2 link 0 index 2 key 61 value 1\nrecords 2\n"
unfolding encode_with digits
two = refl
