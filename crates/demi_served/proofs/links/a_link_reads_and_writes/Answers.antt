use Rattle.demi_served.proofs.Flows.{all_read}
use Rattle.demi_served.proofs.Writes.{torn, written_whole}
use Rattle.demi_served.proofs.LinkEnds.{talk, whole_talk}
use Rattle.demi_served.proofs.links.a_link_reads_and_writes.Goals as goal

pub returns-clause-read : goal.returns-clause-read
returns-clause-read c = all_read

pub returns-clause-torn : goal.returns-clause-torn
returns-clause-torn c = torn

pub returns-clause-whole : goal.returns-clause-whole
returns-clause-whole c = written_whole

pub returns-clause-talk : goal.returns-clause-talk
returns-clause-talk c = talk

pub returns-clause-whole_talk : goal.returns-clause-whole_talk
returns-clause-whole_talk c = whole_talk
