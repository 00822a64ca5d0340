-- How many registers a form takes from its lowest one on.
use Rattle.std.specs.Prelude.{ℕ, ◌+◌, max, List, [], ◌∷◌, ◌++◌, Bool, true, false, if◌then◌else◌}
use Rattle.ir_core.specs.CoreForm as form
use Rattle.ir_core.specs.CoreForm.{CoreForm, Maybe, Forms, Items, Pairs, Branches, Clauses, Receiver}

-- the greatest of a number and a list of numbers
abbrev pub greatest_of : ℕ → List ℕ → ℕ
greatest_of n [] = n
greatest_of n (w ∷ ws) = greatest_of (max n w) ws

-- the greatest of a list of numbers, 0 where there is none
abbrev pub greatest : List ℕ → ℕ
greatest ws = greatest_of 0 ws

-- Each part stands after those before it, from place j on, and three registers after the last: the greatest
-- end of these and of those before.
abbrev pub behind : ℕ → ℕ → List ℕ → ℕ
behind most j [] = max most (j + 3)
behind most j (w ∷ ws) = behind (max most (j + w)) (j + 1) ws

-- the parts of a form that evaluates all of them: the greatest of k + 3 for k parts and of j + the width of part j
abbrev pub in_order : List ℕ → ℕ
in_order ws = behind 0 0 ws

-- parts that are put into a value one after the other
abbrev pub into_one : List ℕ → ℕ
into_one ws = 4 + greatest ws

-- parts that come one after the other into the same register, or only some of them
abbrev pub in_turn : List ℕ → ℕ
in_turn ws = max 5 (2 + greatest ws)

-- the parts of a call, which go into an Array where there is a splat
abbrev pub of_call : Bool → List ℕ → ℕ
of_call true ws = into_one ws
of_call false ws = in_order ws

abbrev pub has_splat : Items → Bool
has_splat form.no_items = false
has_splat (form.plain f is) = has_splat is
has_splat (form.splat f is) = true

-- what stands for a part that isn't there
abbrev pub or_leaf : List ℕ → ℕ
or_leaf [] = 3
or_leaf (w ∷ ws) = w

abbrev mutual
  pub width : CoreForm → ℕ
  width form.nil = 3
  width form.truth = 3
  width form.falsehood = 3
  width form.self_ref = 3
  width (form.int n) = 3
  width (form.str t) = 3
  width (form.sym x) = 3
  width (form.local x) = 3
  width (form.own x) = 3
  width form.exception = 3
  width (form.set_local x f) = in_order (width f ∷ [])
  width (form.ivar x) = 3
  width (form.set_ivar x f) = in_order (width f ∷ [])
  width (form.gvar x) = 3
  width (form.set_gvar x f) = in_order (width f ∷ [])
  width (form.constant x) = 3
  width (form.top_constant x) = 3
  width (form.in_constant f x) = in_order (width f ∷ [])
  width (form.set_constant x f) = in_order (width f ∷ [])
  width (form.set_in_constant f x g) = in_order (width f ∷ width g ∷ [])
  width (form.array is) = into_one (item_widths is)
  width (form.hash ps) = into_one (pair_widths ps)
  width (form.range f g x) = in_order (width f ∷ width g ∷ [])
  width (form.text fs) = into_one (widths fs)
  width (form.intern f) = in_order (width f ∷ [])
  width (form.seq fs) = in_turn (widths fs)
  width (form.cond bs f) = in_turn (branch_widths bs ++ width f ∷ [])
  width (form.and_form f g) = in_order (width f ∷ width g ∷ [])
  width (form.or_form f g) = in_order (width f ∷ width g ∷ [])
  width (form.while_form first f g) = in_turn (width f ∷ width g ∷ [])
  width (form.call r x is b) = of_call (has_splat is) ((receiver_width r ∷ item_widths is) ++ maybe_widths b)
  -- after the Proc that is called
  width (form.yield_form is) = of_call (has_splat is) (3 ∷ item_widths is)
  -- after self
  width (form.super_form is b) = of_call (has_splat is) ((3 ∷ item_widths is) ++ maybe_widths b)
  -- the form of a function stands in a body of its own
  width (form.function b) = 3
  width (form.lambda b) = in_order (3 ∷ [])
  width (form.begin_form b cs o e) = in_turn (((width b ∷ clause_widths cs) ++ maybe_widths o) ++ maybe_widths e)
  width (form.return_form f) = in_order (width f ∷ [])
  width (form.break_form f) = in_order (width f ∷ [])
  width (form.next_form f) = in_order (width f ∷ [])
  width form.retry = 3
  width (form.define x b) = in_order (3 ∷ [])
  width (form.define_on f x b) = in_order (width f ∷ 3 ∷ [])
  -- the scope and the parent
  width (form.class_form c x p b) = in_order (or_leaf (maybe_widths c) ∷ or_leaf (maybe_widths p) ∷ [])
  width (form.module_form c x b) = in_order (or_leaf (maybe_widths c) ∷ [])
  width (form.singleton_class f b) = in_order (width f ∷ [])
  width (form.alias_form x y) = 3
  width (form.undef_form x) = 3
  width (form.defined k x o) = in_order (maybe_widths o)
  width (form.item f k) = in_order (width f ∷ [])
  width (form.rest_of f from post) = in_order (width f ∷ [])
  width (form.tail_of f from count) = in_order (width f ∷ [])

  pub widths : Forms → List ℕ
  widths form.none = []
  widths (form.more f fs) = width f ∷ widths fs

  pub maybe_widths : Maybe → List ℕ
  maybe_widths form.absent = []
  maybe_widths (form.there f) = width f ∷ []

  pub item_widths : Items → List ℕ
  item_widths form.no_items = []
  item_widths (form.plain f is) = width f ∷ item_widths is
  item_widths (form.splat f is) = width f ∷ item_widths is

  pub pair_widths : Pairs → List ℕ
  pair_widths form.no_pairs = []
  pair_widths (form.pair k v ps) = max (width k) (width v) ∷ pair_widths ps

  pub branch_widths : Branches → List ℕ
  branch_widths form.no_branches = []
  branch_widths (form.branch t f bs) = max (width t) (width f) ∷ branch_widths bs

  pub clause_widths : Clauses → List ℕ
  clause_widths form.no_clauses = []
  clause_widths (form.clause cs t f ds) =
      max (greatest_of (greatest (widths cs)) (maybe_widths t)) (width f) ∷ clause_widths ds

  pub receiver_width : Receiver → ℕ
  receiver_width (form.to f) = width f
  receiver_width form.on_self = 3
  receiver_width form.bare = 3
