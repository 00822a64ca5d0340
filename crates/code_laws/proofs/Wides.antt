-- Each form takes a register.
use Rattle.std.proofs.Common.{◌<◌, ℕ, List, [], ◌∷◌, ◌++◌, arith, Bool, true, false}
use Rattle.ir_core.specs.CoreForm as form
use Rattle.ir_core.specs.CoreForm.{CoreForm}
use Rattle.ir_walk.specs.Width.{width, widths, maybe_widths, item_widths, pair_widths, branch_widths, clause_widths, receiver_width, has_splat, or_leaf, into_one, in_turn, of_call}
use Rattle.code_laws.proofs.Widths.{order_some}

one_some : (ws : List ℕ) → 0 < into_one ws
one_some ws = omega arith

turn_some : (ws : List ℕ) → 0 < in_turn ws
turn_some ws = omega arith

call_some : (b : Bool) (ws : List ℕ) → 0 < of_call b ws
call_some true ws = one_some ws
call_some false ws = order_some ws

pub width_some : (f : CoreForm) → 0 < width f
width_some form.nil = omega arith
width_some form.truth = omega arith
width_some form.falsehood = omega arith
width_some form.self_ref = omega arith
width_some (form.int n) = omega arith
width_some (form.str t) = omega arith
width_some (form.sym x) = omega arith
width_some (form.local x) = omega arith
width_some (form.own x) = omega arith
width_some form.exception = omega arith
width_some (form.set_local x f) = order_some (width f ∷ [])
width_some (form.ivar x) = omega arith
width_some (form.set_ivar x f) = order_some (width f ∷ [])
width_some (form.gvar x) = omega arith
width_some (form.set_gvar x f) = order_some (width f ∷ [])
width_some (form.constant x) = omega arith
width_some (form.top_constant x) = omega arith
width_some (form.in_constant f x) = order_some (width f ∷ [])
width_some (form.set_constant x f) = order_some (width f ∷ [])
width_some (form.set_in_constant f x g) = order_some (width f ∷ width g ∷ [])
width_some (form.array is) = one_some (item_widths is)
width_some (form.hash ps) = one_some (pair_widths ps)
width_some (form.range f g x) = order_some (width f ∷ width g ∷ [])
width_some (form.text fs) = one_some (widths fs)
width_some (form.intern f) = order_some (width f ∷ [])
width_some (form.seq fs) = turn_some (widths fs)
width_some (form.cond bs f) = turn_some (branch_widths bs ++ width f ∷ [])
width_some (form.and_form f g) = order_some (width f ∷ width g ∷ [])
width_some (form.or_form f g) = order_some (width f ∷ width g ∷ [])
width_some (form.while_form first f g) = turn_some (width f ∷ width g ∷ [])
width_some (form.call r x is b) = call_some (has_splat is) ((receiver_width r ∷ item_widths is) ++ maybe_widths b)
width_some (form.yield_form is) = call_some (has_splat is) (3 ∷ item_widths is)
width_some (form.super_form is b) = call_some (has_splat is) ((3 ∷ item_widths is) ++ maybe_widths b)
width_some (form.function b) = omega arith
width_some (form.lambda b) = order_some (3 ∷ [])
width_some (form.begin_form b cs o e) = turn_some (((width b ∷ clause_widths cs) ++ maybe_widths o) ++ maybe_widths e)
width_some (form.return_form f) = order_some (width f ∷ [])
width_some (form.break_form f) = order_some (width f ∷ [])
width_some (form.next_form f) = order_some (width f ∷ [])
width_some form.retry = omega arith
width_some (form.define x b) = order_some (3 ∷ [])
width_some (form.define_on f x b) = order_some (width f ∷ 3 ∷ [])
width_some (form.class_form c x p b) = order_some (or_leaf (maybe_widths c) ∷ or_leaf (maybe_widths p) ∷ [])
width_some (form.module_form c x b) = order_some (or_leaf (maybe_widths c) ∷ [])
width_some (form.singleton_class f b) = order_some (width f ∷ [])
width_some (form.alias_form x y) = omega arith
width_some (form.undef_form x) = omega arith
width_some (form.defined k x o) = order_some (maybe_widths o)
width_some (form.item f k) = order_some (width f ∷ [])
width_some (form.rest_of f from post) = order_some (width f ∷ [])
width_some (form.tail_of f from count) = order_some (width f ∷ [])
