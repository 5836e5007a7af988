use Rattle.rules.specs.Units.{unit_at}
use Rattle.units.proofs.StepLaws.{over-steps}
use Rattle.units.proofs.read_unit.Goals as goal

pub returns-in-Start : goal.returns-in-Start
unfolding unit_at
returns-in-Start c = rw c.in-Start.is (c.header.ensures _)

pub returns-in-AfterHeader : goal.returns-in-AfterHeader
unfolding unit_at
returns-in-AfterHeader c = rw c.in-AfterHeader.is (c.model.ensures _)

pub returns-in-Body : goal.returns-in-Body
unfolding unit_at
returns-in-Body c = rw c.in-Body.is c.body_unit.ensures

pub returns-in-Members : goal.returns-in-Members
unfolding unit_at
returns-in-Members c = rw c.in-Members.is c.member_unit.ensures

pub returns-in-Over : goal.returns-in-Over
unfolding unit_at
returns-in-Over c = rw c.in-Over.is (over-steps _ c.ended.ensures)
