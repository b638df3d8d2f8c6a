use Rattle.demi_device.proofs.device.Device.run.Goals as goal

pub returns-in-Ended-clause-ends : goal.returns-in-Ended-clause-ends
returns-in-Ended-clause-ends g c = let t = c.in-Ended.ensures in t.ends t.ended.1.0
