use Rattle.demi_pdpix.proofs.Dealt.{dealt}
use Rattle.demi_pdpix.proofs.dealing.deal_one.Goals as goal

pub returns-clause-left : goal.returns-clause-left
returns-clause-left g c = let n = c.args.number in let left = c.requires.left in record {
  memory = (dealt n c.args.ports.now.memory c.deal-memory.new.self c.deal-memory.result left.memory c.deal-memory.ensures).0;
  service = (dealt n c.args.ports.now.service c.deal-service.new.self c.deal-service.result left.service c.deal-service.ensures).0;
  journal = c.deal_each.ensures.left;
  rx = c.deal_each-2.ensures.left;
  tx = c.deal_each-3.ensures.left;
}

pub returns-clause-same : goal.returns-clause-same
returns-clause-same g c = let n = c.args.number in let left = c.requires.left in record {
  memory = (dealt n c.args.ports.now.memory c.deal-memory.new.self c.deal-memory.result left.memory c.deal-memory.ensures).2;
  service = (dealt n c.args.ports.now.service c.deal-service.new.self c.deal-service.result left.service c.deal-service.ensures).2;
  journal = c.deal_each.ensures.same;
  rx = c.deal_each-2.ensures.same;
  tx = c.deal_each-3.ensures.same;
}

pub returns-clause-caller : goal.returns-clause-caller
returns-clause-caller g c = let n = c.args.number in let left = c.requires.left in record {
  memory = (dealt n c.args.ports.now.memory c.deal-memory.new.self c.deal-memory.result left.memory c.deal-memory.ensures).1;
  service = (dealt n c.args.ports.now.service c.deal-service.new.self c.deal-service.result left.service c.deal-service.ensures).1;
  journal = c.deal_each.ensures.passes;
  rx = c.deal_each-2.ensures.passes;
  tx = c.deal_each-3.ensures.passes;
}
