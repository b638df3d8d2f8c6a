use Rattle.demi_audit.proofs.Drawing.{next_state, drawn_of}
use Rattle.demi_audit.proofs.draws.Draws.draw.Goals as goal

pub returns-clause-state : goal.returns-clause-state
returns-clause-state c = next_state c.args.self.now.state

pub returns-clause-drawn : goal.returns-clause-drawn
returns-clause-drawn c = drawn_of c.args.self.now.state _ (next_state c.args.self.now.state)
