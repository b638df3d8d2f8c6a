-- Worked examples: they compute.
use Rattle.std.specs.Prelude.{◌≡◌, [], ◌∷◌, Some, None, codes, refl}
use Rattle.clap.proofs.OnLiterals.{clap_on_literals}
use Rattle.demi_words.specs.Commands.{Pipe, Serve, Bench, Check, Log, command_by, command_of}

no_words : command_of [] ≡ None
no_words = refl

another_name : command_of (codes "help" ∷ []) ≡ None
another_name = refl

no_limit : command_of (codes "pipe" ∷ codes "L" ∷ []) ≡ Some (Pipe 1000000 (codes "L"))
unfolding command_by clap_on_literals
no_limit = refl

a_limit : command_of (codes "pipe" ∷ codes "--limit" ∷ codes "5" ∷ codes "L" ∷ []) ≡ Some (Pipe 5 (codes "L"))
unfolding command_by clap_on_literals
a_limit = refl

a_limit_at_the_end : command_of (codes "pipe" ∷ codes "L" ∷ codes "--limit=005" ∷ []) ≡ Some (Pipe 5 (codes "L"))
unfolding command_by clap_on_literals
a_limit_at_the_end = refl

a_plus_sign : command_of (codes "pipe" ∷ codes "--limit" ∷ codes "+5" ∷ codes "L" ∷ []) ≡ Some (Pipe 5 (codes "L"))
unfolding command_by clap_on_literals
a_plus_sign = refl

no_room : command_of (codes "pipe" ∷ codes "--limit" ∷ codes "0" ∷ codes "L" ∷ []) ≡ None
unfolding command_by clap_on_literals
no_room = refl

too_much_room : command_of (codes "pipe" ∷ codes "--limit" ∷ codes "1000001" ∷ codes "L" ∷ []) ≡ None
unfolding command_by clap_on_literals
too_much_room = refl

two_limits : command_of (codes "pipe" ∷ codes "--limit" ∷ codes "5" ∷ codes "--limit" ∷ codes "5" ∷ codes "L" ∷ []) ≡ None
unfolding command_by clap_on_literals
two_limits = refl

no_log : command_of (codes "pipe" ∷ []) ≡ None
unfolding command_by clap_on_literals
no_log = refl

two_logs : command_of (codes "pipe" ∷ codes "L" ∷ codes "M" ∷ []) ≡ None
unfolding command_by clap_on_literals
two_logs = refl

no_help : command_of (codes "pipe" ∷ codes "--help" ∷ []) ≡ None
unfolding command_by clap_on_literals
no_help = refl

no_version : command_of (codes "pipe" ∷ codes "--version" ∷ codes "L" ∷ []) ≡ None
unfolding command_by clap_on_literals
no_version = refl

only_words_follow : command_of (codes "pipe" ∷ codes "--" ∷ codes "--limit" ∷ []) ≡ Some (Pipe 1000000 (codes "--limit"))
unfolding command_by clap_on_literals
only_words_follow = refl

links_and_workers : command_of (codes "serve" ∷ codes "--links" ∷ codes "2" ∷ codes "--workers" ∷ codes "1" ∷ codes "A" ∷ codes "L" ∷ []) ≡ Some (Serve 2 1 1000000 (codes "A") (codes "L"))
unfolding command_by clap_on_literals
links_and_workers = refl

too_many_links : command_of (codes "serve" ∷ codes "--links" ∷ codes "17" ∷ codes "--workers" ∷ codes "1" ∷ codes "A" ∷ codes "L" ∷ []) ≡ None
unfolding command_by clap_on_literals
too_many_links = refl

too_many_workers : command_of (codes "serve" ∷ codes "--links" ∷ codes "2" ∷ codes "--workers" ∷ codes "5" ∷ codes "A" ∷ codes "L" ∷ []) ≡ None
unfolding command_by clap_on_literals
too_many_workers = refl

workers_are_missing : command_of (codes "serve" ∷ codes "--links" ∷ codes "2" ∷ codes "A" ∷ codes "L" ∷ []) ≡ None
unfolding command_by clap_on_literals
workers_are_missing = refl

the_largest_seed : command_of (codes "bench" ∷ codes "--links=2" ∷ codes "--workers=1" ∷ codes "--count=3" ∷ codes "--seed=18446744073709551615" ∷ []) ≡ Some (Bench 2 1 3 18446744073709551615 None)
unfolding command_by clap_on_literals
the_largest_seed = refl

a_larger_seed : command_of (codes "bench" ∷ codes "--links=2" ∷ codes "--workers=1" ∷ codes "--count=3" ∷ codes "--seed=18446744073709551616" ∷ []) ≡ None
unfolding command_by clap_on_literals
a_larger_seed = refl

a_name_to_keep : command_of (codes "bench" ∷ codes "--keep" ∷ codes "K" ∷ codes "--links=2" ∷ codes "--workers=1" ∷ codes "--count=0" ∷ codes "--seed=7" ∷ []) ≡ Some (Bench 2 1 0 7 (Some (codes "K")))
unfolding command_by clap_on_literals
a_name_to_keep = refl

a_name_to_check : command_of (codes "check" ∷ codes "N" ∷ []) ≡ Some (Check (codes "N"))
unfolding command_by clap_on_literals
a_name_to_check = refl

a_name_to_list : command_of (codes "log" ∷ codes "N" ∷ []) ≡ Some (Log (codes "N"))
unfolding command_by clap_on_literals
a_name_to_list = refl
