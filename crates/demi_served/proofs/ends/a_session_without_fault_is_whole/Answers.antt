use Rattle.demi_served.proofs.Wholes.{whole}
use Rattle.demi_served.proofs.ends.a_session_without_fault_is_whole.Goals as goal

pub returns : goal.returns
returns c = record { whole = λ b end history workers links run talks ends told. whole b end history workers links run talks ends told }
