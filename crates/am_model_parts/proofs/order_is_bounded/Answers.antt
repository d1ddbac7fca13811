use Rattle.am_model_parts.proofs.Numbers.{bounded}
use Rattle.am_model_parts.proofs.order_is_bounded.Goals as goal

pub returns-clause-order : goal.returns-clause-order
returns-clause-order c = λ pool e s order. bounded s.body order.within

pub returns-clause-within : goal.returns-clause-within
returns-clause-within c = bounded
