use Rattle.am_scenario_plan.proofs.Shapes.{one_packet_more, begins_alike}
use Rattle.am_scenario_plan.proofs.shape_of.one_packet_more.Goals as goal

pub returns-clause-one : goal.returns-clause-one
returns-clause-one c = one_packet_more

pub returns-clause-more : goal.returns-clause-more
returns-clause-more c = begins_alike
