-- What the real world did, call by call, and what it thereby gave and keeps.
use Rattle.std.specs.Prelude.{◌≡◌, ℕ, List, [], ◌∷◌, None, false, cond, ◌==◌, replicate, refl}
use Rattle.std.specs.Coded.{Coded, code_by, coded×, coded_ℕ, coded_list}
use Rattle.demi_core.specs.World.{Link, Log, WorldState, after_links, after_keep_link, after_log, after_keep_log, after_warn, after_say}

-- a call that was answered, with the numbers of what it gave or took
pub data Call : Type 0 where
  links_given : ℕ → Call
  link_kept : ℕ → ℕ → ℕ → ℕ → Call
  log_given : List ℕ → ℕ → Call
  log_kept : List ℕ → ℕ → ℕ → Call
  text_warned : List ℕ → Call
  text_said : List ℕ → Call

-- a real link, by the bytes that its source gave and the faults of its two ends
abbrev pub real_link : ℕ → ℕ → ℕ → Link
real_link taken read_faults write_faults = record { taken = taken; left = None; read_faults = read_faults; written = None; write_faults = write_faults }

-- a real log, by its number of bytes and its faults
abbrev pub real_log : ℕ → ℕ → Log
real_log held faults = record { held = held; bytes = None; faults = faults }

-- what the world gave and keeps after some calls, of which the last comes first
abbrev pub state_after : List Call → WorldState
state_after [] = record {
  said = None;
  warned = [];
  given_links = [];
  given_logs = [];
  kept_link = λ i. None;
  kept_log = λ name. None;
  owes_link = λ i. false;
  owes_log = λ name. false;
}
state_after (links_given count ∷ past) = after_links (state_after past) (replicate count (real_link 0 0 0))
state_after (link_kept number taken read_faults write_faults ∷ past) = after_keep_link (state_after past) number (real_link taken read_faults write_faults)
state_after (log_given name held ∷ past) = after_log (state_after past) name (real_log held 0)
state_after (log_kept name held faults ∷ past) = after_keep_log (state_after past) name (real_log held faults)
state_after (text_warned text ∷ past) = after_warn (state_after past) text
state_after (text_said text ∷ past) = after_say (state_after past) text

-- How the logic stores a call: a number for its kind, a text and four numbers.
abbrev Parts : Type 0
Parts = ℕ × (List ℕ × (ℕ × (ℕ × (ℕ × ℕ))))

abbrev to_parts : Call → Parts
to_parts (links_given count) = (0, ([], (count, (0, (0, 0)))))
to_parts (link_kept number taken read_faults write_faults) = (1, ([], (number, (taken, (read_faults, write_faults)))))
to_parts (log_given name held) = (2, (name, (0, (held, (0, 0)))))
to_parts (log_kept name held faults) = (3, (name, (0, (held, (faults, 0)))))
to_parts (text_warned text) = (4, (text, (0, (0, (0, 0)))))
to_parts (text_said text) = (5, (text, (0, (0, (0, 0)))))

abbrev from_parts : Parts → Call
from_parts p =
    cond (p.0 == 0) (links_given p.1.1.0) (cond (p.0 == 1) (link_kept p.1.1.0 p.1.1.1.0 p.1.1.1.1.0 p.1.1.1.1.1) (cond (p.0 == 2) (log_given p.1.0 p.1.1.1.0)
    (cond (p.0 == 3) (log_kept p.1.0 p.1.1.1.0 p.1.1.1.1.0) (cond (p.0 == 4) (text_warned p.1.0) (text_said p.1.0)))))

pub from_parts-to_parts : (call : Call) → from_parts (to_parts call) ≡ call
from_parts-to_parts (links_given count) = refl
from_parts-to_parts (link_kept number taken read_faults write_faults) = refl
from_parts-to_parts (log_given name held) = refl
from_parts-to_parts (log_kept name held faults) = refl
from_parts-to_parts (text_warned text) = refl
from_parts-to_parts (text_said text) = refl

abbrev pub calls_code : Coded (List Call)
calls_code = coded_list (code_by Parts (coded× coded_ℕ (coded× (coded_list coded_ℕ) (coded× coded_ℕ (coded× coded_ℕ (coded× coded_ℕ coded_ℕ))))) to_parts from_parts from_parts-to_parts)
