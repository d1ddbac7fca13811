use Rattle.am_model.proofs.Order.{order_fresh, order_called, order_wanted, order_arrived, order_carried, order_bound, order_settled, order_drained}
use Rattle.am_model.proofs.Order.{order_unloaded, order_loaded, order_paged_out, order_paged_in}
use Rattle.am_model_parts.proofs.changes_keep_order.Goals as goal

pub returns-clause-fresh : goal.returns-clause-fresh
returns-clause-fresh c = order_fresh

pub returns-clause-call : goal.returns-clause-call
returns-clause-call c = order_called

pub returns-clause-want : goal.returns-clause-want
returns-clause-want c = order_wanted

pub returns-clause-arrival : goal.returns-clause-arrival
returns-clause-arrival c = order_arrived

pub returns-clause-carry : goal.returns-clause-carry
returns-clause-carry c = order_carried

pub returns-clause-bind : goal.returns-clause-bind
returns-clause-bind c = order_bound

pub returns-clause-settling : goal.returns-clause-settling
returns-clause-settling c = order_settled

pub returns-clause-drain : goal.returns-clause-drain
returns-clause-drain c = order_drained

pub returns-clause-unload : goal.returns-clause-unload
returns-clause-unload c = order_unloaded

pub returns-clause-load : goal.returns-clause-load
returns-clause-load c = order_loaded

pub returns-clause-page_out : goal.returns-clause-page_out
returns-clause-page_out c = order_paged_out

pub returns-clause-page_in : goal.returns-clause-page_in
returns-clause-page_in c = order_paged_in
