-- The names that the walks cite, passed on.
pub use mathlib.Core.Path.{◌≡◌, refl, sym, ap, subst, ◌∙◌}
pub use mathlib.Core.Bool.{true, false}
pub use mathlib.Core.List.{List, [], ◌∷◌, ◌++◌}
pub use Prim.Native.Nat.{ℕ, zero, suc, ◌+◌, ◌*◌, ◌<◌, ◌≤◌, ◌^◌}
pub use native.Mathlib.Omega.{arith}
pub use lib.Dec.{T, lit<}
pub use lib.ListN.{length, set, get_or, replicate, length-set, length-replicate}
pub use seplogic.Ra.Ura.{Ura}
pub use base.Fraction.{full_share}
pub use base.Logic.{SProp, ent, sep, emp, ex, guard, never, via, snd∗, id⊢}
pub use base.Fml.{Fml, Lft, GName, Share, Incl-trans, ftrue, fsep, fat, froom, flft, fobs, fbor}
pub use mir.Syntax.{Fn, Body, Ty, named, w64, ty_unit, ty_array}
pub use mir.MapTy.{inst_fn}
pub use mir.Val.{Val, vptr, vint, vunit, vstruct, vcons, vnil, of_list, has_ty, WT}
pub use prog.Memory.{Memory, align, capped}
pub use prog.Capped.{capped_fits}
pub use prog.Routine.{Routine}
pub use prog.Wp.{Env, Calls, Loops, Wp, WpFn, Tables, after_seq, at_return}
pub use types.Logic.{Logic, sem}
pub use contract.Monad.{Fun, fact, fact_i}
pub use contract.BorrowLft.{◌⊑◌}
pub use sound.WpLaws.{FmC, fm_of, WpFn-mono}
pub use types.Kit.{
  Item,
  Goal,
  Seq,
  Step,
  step,
  ⋆,
  ‵,
  raw,
  ◌⊛◌,
  some,
  given,
  later,
  await,
  learn,
  pick,
  prop,
  at_ret,
  any_q,
  ◌$◌,
  ◌∵◌,
  !,
  qed,
  by,
  move,
  keep,
  drop,
  use0,
  use1,
  use2,
  use3,
  split,
  join,
  group,
  rewrite,
  check,
  show,
  fsplit,
  fsplit3,
  fjoin,
  fjoin3,
  fpick,
  fpack,
  feq_i,
  feq_l,
  flt_i,
  flt_l,
  suffices,
  frame,
  done,
}
pub use types.Part.{whole, sub, agg}
pub use types.Run.{
  init,
  stop,
  fld,
  lit,
  unit_lit,
  size_lit,
  size_word,
  align_word,
  of_opd,
  bin,
  addr,
  load,
  look,
  and_then,
  no_more,
  assigns_last,
  first,
  blocks,
  exec,
  returns,
  enter,
  switches_on,
}
pub use types.ByLocal.{alloc_all, pass_all, free_all, look_at, get, get_in, get_tag, through, sets, sets_last, lands_as, lands_last, is, env, take_at, give_at}
pub use types.Match.{live, vrt, in_variant}
pub use types.SemTy.{Body as Borrowed}
pub use denote.Exit.{yes, no}
pub use denote.RattleType.{RattleType, Valss, owns}
pub use denote.Laws.{Typed, Is, shows}
pub use denote.Memory.{mem, cell_at, part_at, hidden_shr}
pub use denote.Param.{layout, param}
pub use denote.Param.Laws.{Laws, param_laws}
pub use denote.RawPtr.{Ptr, RawPtr, block_ptr, null_ptr, ptr_val, in_a_block}
pub use denote.Ref.{Bor, ShrRef, MutBor, MutRef}
pub use denote.Builtin.{RefOf, RefMutOf, unit, usize}
pub use denote.Shadow.{makes_shadow}
pub use denote.Signature.{plain, mut_ref_to}
pub use denote.Steps.{nothing, opens, closes, owned, peeks}
pub use denote.Opens.{hide, unhide}
pub use denote.Follow.{follows, Part, lends_Part}
pub use denote.Struct.Struct.{Shape, Struct, Struct-Makes, within}
pub use denote.Struct.Owning.{shape}
pub use denote.Struct.Declared as Declared
pub use denote.Struct.Tuple.{Tuple, tuple_type}
pub use denote.Triple.Call.{calls_at, calls_at_last}
pub use denote.Triple.Carry.{spared}
pub use denote.Triple.Clauses.{Clauses, Ended, closing}
pub use denote.Triple.Entry.{on_entry}
pub use denote.Triple.Spec.{Meets, triple_of}
pub use denote.Triple.Statement.{Triple}
pub use denote.Triple.Table.{entered, run_framed}
pub use denote.Triple.Walked.{says, needs, Stays, stay_dropped, stay_ref, walk_of, ends_at, Goes-dropped, Goes-ref, Goes-spent_ref, walk_Meets}
pub use borrow.Table.OneValue.{part_in, part_out}
pub use Rattle.std.specs.Prelude.{Option, Some, None, Ok, Err, IfOk}
pub use Rattle.std.specs.Mem.{type_size}
pub use Rattle.std.proofs.mem.Param.{El, R, args, el_x, elτ}
pub use Rattle.std.proofs.ptr.Rows.{times_below, one_below}
pub use Rattle.std.proofs.RawLayout.{as_raw, as_written}
pub use Rattle.std.proofs.RcSteps.{Good, word, word-Good, first_Good}
pub use Rattle.std.proofs.VecSteps.Shapes.{after, head, arm_body}
