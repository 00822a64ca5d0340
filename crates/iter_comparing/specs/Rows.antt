-- What each row wants first, and next with the answer to what it wanted before.
use Rattle.std.specs.Prelude.{◌≡◌, ℕ, List, [], ◌∷◌, ◌++◌, length, get_or, codes, nat_eq, not, Bool, true, false, ◌&&◌, if◌then◌else◌, Option, Some, None}
use Rattle.rb_value.specs.declared.value.Value.{Value}
use Rattle.rb_value.specs.declared.value.Value.TheVariants.{Nil, False}
use Rattle.rb_value.specs.declared.value.ObjId.{ObjId}
use Rattle.rb_value.specs.Value.{truth, is_true}
use Rattle.rb_value.specs.declared.core_class.CoreClass.{CoreClass}
use Rattle.rb_value.specs.declared.core_class.CoreClass.TheVariants as class
use Rattle.def_core.specs.declared.cause.Cause.{Cause}
use Rattle.def_core.specs.declared.cause.Cause.TheVariants as cause
use Rattle.def_core.specs.Parts.{elements_at}
use Rattle.def_calls.specs.Views.{an_array, a_hash, kind_in, string_of}
use Rattle.def_core.specs.Changes.{intern, Interned}
use Rattle.rb_value.specs.declared.value.SymId.{SymId}
use Rattle.rb_store.specs.Held.{Held}
use Rattle.core_calls.specs.Checks.{miscounted}
use Rattle.core_calls.specs.Flat.{flattened}
use Rattle.core_calls.specs.declared.flattening.Empty.TheVariants.{Stays}
use Rattle.def_plans.specs.Plan.{Planned, gives, refuses, expected}
use Rattle.iter_comparing.specs.declared.row.ComparingRow.{ComparingRow}
use Rattle.iter_comparing.specs.declared.row.ComparingRow.TheVariants as row
use Rattle.iter_comparing.specs.Stage.{Stage, negates, tests, hands, missing, orders, asks}
use Rattle.iter_comparing.specs.Ordering as ordering
use Rattle.iter_comparing.specs.Equal.{IsAsked}
use Rattle.iter_comparing.specs.Fetching.{element, fetch, fail_absent}
use Rattle.iter_comparing.specs.Repeating.{repeat, made}
use Rattle.iter_comparing.specs.declared.sifting.Sieve.{Sieve}
use Rattle.iter_comparing.specs.declared.sifting.Sieve.TheVariants as sieve
use Rattle.iter_comparing.specs.declared.sifting.Sifting.{Sifting}
use Rattle.iter_comparing.specs.declared.showing.Shown.{Shown}
use Rattle.iter_comparing.specs.declared.showing.Shown.TheVariants.{Elements, Pairs}
use Rattle.iter_comparing.specs.declared.state.Work.{Work}
use Rattle.iter_comparing.specs.declared.state.Work.TheVariants as work
use Rattle.iter_comparing.specs.Sifting.{is_union}
use Rattle.iter_comparing.specs.Hashes.{items, pairs}
use Rattle.iter_comparing.specs.Keyed as keyed
use Rattle.iter_comparing.specs.Asking.{Begins, Comes}
use Rattle.iter_comparing.specs.Asking as asking

-- at least and at most so many arguments
abbrev pub counts : ComparingRow → ℕ × ℕ
counts row.Differs = (1, 1)
counts row.Matches = (1, 1)
counts row.ArrayEquality = (1, 1)
counts row.ArrayOrder = (1, 1)
counts row.ArrayIndex = (1, 1)
counts row.ArrayIncludes = (1, 1)
counts row.ArrayDelete = (1, 1)
counts row.ArrayDifference = (1, 1)
counts row.ArrayIntersection = (1, 1)
counts row.ArrayUnion = (1, 1)
counts row.ArrayRepeat = (1, 1)
counts row.ArrayJoin = (0, 1)
counts row.ArrayText = (0, 0)
counts row.HashElement = (1, 1)
counts row.HashFetch = (1, 2)
counts row.HashHasValue = (1, 1)
counts row.HashKeyOf = (1, 1)
counts row.HashEquality = (1, 1)
counts row.HashText = (0, 0)
counts (row.Order r) = (ordering.arguments r, ordering.arguments r)

-- the value is of the class of which one is wanted, or it is refused
abbrev pub Of : Held → CoreClass → Value → Option ObjId → (ObjId → Type 0) → Planned Stage → Type 0
Of held c v None Further p = p ≡ refuses held (expected held c v)
Of held c v (Some id) Further p = Further id

-- Works at their beginning.

-- another value isn't equal to an Array, and stands in no order to it
abbrev pub unequal : Bool → Value
unequal true = Nil
unequal false = False

abbrev pub name_of : Bool → List ℕ
name_of true = codes "<=>"
name_of false = codes "=="

abbrev pub PairsWith : Held → ObjId → Bool → Option ObjId → Planned Stage → Type 0
PairsWith held a ordered None p = p ≡ gives held (unequal ordered)
PairsWith held a ordered (Some b) p = Begins held (name_of ordered)
    (work.Pairs (record { left = a; right = b; place = 0; ordered = ordered })) p

abbrev pub search : ObjId → Value → Bool → Work
search a v indexed = work.Searches (record { array = a; place = 0; wanted = v; indexed = indexed })

abbrev pub removal : ObjId → Value → Work
removal a v = work.Removes (record { array = a; wanted = v; place = 0; asked = Nil; kept = []; taken = None })

abbrev pub elements : Held → ObjId → List Value
elements held a = elements_at held.store.objects a

-- the elements of the first Array, and for a union those of both, of which some stay
abbrev pub sifting : Held → ObjId → Sieve → ObjId → Sifting
sifting held a s b = record {
  sieve = s;
  values = if is_union s then elements held a ++ elements held b else elements held a;
  place = 0;
  others = if is_union s then [] else elements held b;
  kept = [];
  among_kept = is_union s;
  asked = 0;
}

-- of Integers, and Strings, that have the `==` of their class those stay at once that stay by their keys
abbrev pub SiftsHow : Bool → Held → SymId → Sifting → Planned Stage → Type 0
SiftsHow true held equal w p = p ≡ made held (keyed.sifted held.store w)
SiftsHow false held equal w p = Comes equal held (work.Sifts w) p

abbrev pub SiftsFor : Held → SymId → Sifting → Planned Stage → Type 0
SiftsFor held equal w p = SiftsHow (keyed.have_own_equality held.store equal w.values
    && keyed.have_own_equality held.store equal w.others) held equal w p

abbrev pub SiftsNamed : Held → Sifting → Interned → Planned Stage → Type 0
SiftsNamed held w named p = SiftsFor (record held { store = named.store }) named.symbol w p

abbrev pub SiftsAll : Held → Sifting → Planned Stage → Type 0
SiftsAll held w p = SiftsNamed held w (intern held.store (codes "==")) p

abbrev pub SiftsBy : Held → ObjId → Sieve → Value → Option ObjId → Planned Stage → Type 0
SiftsBy held a s v None p = p ≡ refuses held (expected held class.Array v)
SiftsBy held a s v (Some b) p = SiftsAll held (sifting held a s b) p

abbrev pub Sifts : Held → ObjId → Sieve → Value → Planned Stage → Type 0
Sifts held a s v p = SiftsBy held a s v (an_array held.store.objects v) p

-- `join`: the pieces are the elements of nested Arrays and the Arrays that have none, down to 10,000 levels

abbrev pub joining : List Value → List ℕ → Work
joining pieces separator =
    work.Joins (record { pieces = pieces; place = 0; text = []; separator = separator })

abbrev pub JoinsAll : Held → Option (List Value) → List ℕ → Planned Stage → Type 0
JoinsAll held None separator p = p ≡ refuses held cause.StackTooDeep
JoinsAll held (Some pieces) separator p = Begins held (codes "to_s") (joining pieces separator) p

abbrev pub JoinsBy : Held → ObjId → List ℕ → Planned Stage → Type 0
JoinsBy held a separator p = JoinsAll held (flattened Stays held.store (elements held a)) separator p

-- the separator is a String, and none without an argument

abbrev pub JoinsWith : Held → ObjId → Value → Option (List ℕ) → Planned Stage → Type 0
JoinsWith held a v None p = p ≡ refuses held (expected held class.String v)
JoinsWith held a v (Some separator) p = JoinsBy held a separator p

abbrev pub Joins : Held → ObjId → List Value → Planned Stage → Type 0
Joins held a [] p = JoinsBy held a [] p
Joins held a (v ∷ vs) p = JoinsWith held a v (string_of (kind_in held.store.objects v)) p

abbrev pub showing : Shown → Work
showing shown = work.Shows (record { shown = shown; place = 0; text = [] })

abbrev pub key_search : Held → ObjId → Value → Bool → Work
key_search held h v keyed =
    work.FindsKey (record { pairs = items (pairs held.store h); place = 0; wanted = v; keyed = keyed })

-- another value isn't equal to a Hash, and neither is one with more or fewer pairs
abbrev pub EqualBy : Held → ObjId → ObjId → Bool → Planned Stage → Type 0
EqualBy held h other true p = Begins held (codes "==")
    (work.Equates (record { pairs = items (pairs held.store h); place = 0; other = other })) p
EqualBy held h other false p = p ≡ gives held False

abbrev pub EqualTo : Held → ObjId → Option ObjId → Planned Stage → Type 0
EqualTo held h None p = p ≡ gives held False
EqualTo held h (Some other) p =
    EqualBy held h other (nat_eq (length (pairs held.store h)) (length (pairs held.store other))) p

-- what a row begins with for an Array, and for a Hash

abbrev pub ForArray : ComparingRow → Held → ObjId → List Value → Planned Stage → Type 0
ForArray row.Differs held a args p = Unit {0}
ForArray row.Matches held a args p = Unit {0}
ForArray row.ArrayEquality held a args p = PairsWith held a false (an_array held.store.objects (get_or args 0 Nil)) p
ForArray row.ArrayOrder held a args p = PairsWith held a true (an_array held.store.objects (get_or args 0 Nil)) p
ForArray row.ArrayIndex held a args p = Begins held (codes "==") (search a (get_or args 0 Nil) true) p
ForArray row.ArrayIncludes held a args p = Begins held (codes "==") (search a (get_or args 0 Nil) false) p
ForArray row.ArrayDelete held a args p = Begins held (codes "==") (removal a (get_or args 0 Nil)) p
ForArray row.ArrayDifference held a args p = Sifts held a sieve.Difference (get_or args 0 Nil) p
ForArray row.ArrayIntersection held a args p = Sifts held a sieve.Intersection (get_or args 0 Nil) p
ForArray row.ArrayUnion held a args p = Sifts held a sieve.Union (get_or args 0 Nil) p
ForArray row.ArrayRepeat held a args p = p ≡ repeat held a (get_or args 0 Nil)
ForArray row.ArrayJoin held a args p = Joins held a args p
ForArray row.ArrayText held a args p = Begins held (codes "inspect") (showing (Elements a)) p
ForArray row.HashElement held a args p = Unit {0}
ForArray row.HashFetch held a args p = Unit {0}
ForArray row.HashHasValue held a args p = Unit {0}
ForArray row.HashKeyOf held a args p = Unit {0}
ForArray row.HashEquality held a args p = Unit {0}
ForArray row.HashText held a args p = Unit {0}
ForArray (row.Order r) held a args p = Unit {0}

abbrev pub ForHash : ComparingRow → Held → ObjId → List Value → Option ObjId → Planned Stage → Type 0
ForHash row.Differs held h args block p = Unit {0}
ForHash row.Matches held h args block p = Unit {0}
ForHash row.ArrayEquality held h args block p = Unit {0}
ForHash row.ArrayOrder held h args block p = Unit {0}
ForHash row.ArrayIndex held h args block p = Unit {0}
ForHash row.ArrayIncludes held h args block p = Unit {0}
ForHash row.ArrayDelete held h args block p = Unit {0}
ForHash row.ArrayDifference held h args block p = Unit {0}
ForHash row.ArrayIntersection held h args block p = Unit {0}
ForHash row.ArrayUnion held h args block p = Unit {0}
ForHash row.ArrayRepeat held h args block p = Unit {0}
ForHash row.ArrayJoin held h args block p = Unit {0}
ForHash row.ArrayText held h args block p = Unit {0}
ForHash row.HashElement held h args block p = p ≡ element held h (get_or args 0 Nil)
ForHash row.HashFetch held h args block p = p ≡ fetch held h args block
ForHash row.HashHasValue held h args block p = Begins held (codes "==") (key_search held h (get_or args 0 Nil) false) p
ForHash row.HashKeyOf held h args block p = Begins held (codes "==") (key_search held h (get_or args 0 Nil) true) p
ForHash row.HashEquality held h args block p = EqualTo held h (a_hash held.store.objects (get_or args 0 Nil)) p
ForHash row.HashText held h args block p = Begins held (codes "inspect") (showing (Pairs (items (pairs held.store h)))) p
ForHash (row.Order r) held h args block p = Unit {0}

abbrev pub OfArray : ComparingRow → Held → Value → List Value → Planned Stage → Type 0
OfArray r held recv args p =
    Of held class.Array recv (an_array held.store.objects recv) (λ a. ForArray r held a args p) p

abbrev pub OfHash : ComparingRow → Held → Value → List Value → Option ObjId → Planned Stage → Type 0
OfHash r held recv args block p =
    Of held class.Hash recv (a_hash held.store.objects recv) (λ h. ForHash r held h args block p) p

-- what a row with so many arguments begins with
abbrev pub Counted : ComparingRow → Held → Value → List Value → Option ObjId → Planned Stage → Type 0
Counted row.Differs held recv args block p = IsAsked held true recv args p
Counted row.Matches held recv args block p = IsAsked held false recv args p
Counted row.ArrayEquality held recv args block p = OfArray row.ArrayEquality held recv args p
Counted row.ArrayOrder held recv args block p = OfArray row.ArrayOrder held recv args p
Counted row.ArrayIndex held recv args block p = OfArray row.ArrayIndex held recv args p
Counted row.ArrayIncludes held recv args block p = OfArray row.ArrayIncludes held recv args p
Counted row.ArrayDelete held recv args block p = OfArray row.ArrayDelete held recv args p
Counted row.ArrayDifference held recv args block p = OfArray row.ArrayDifference held recv args p
Counted row.ArrayIntersection held recv args block p = OfArray row.ArrayIntersection held recv args p
Counted row.ArrayUnion held recv args block p = OfArray row.ArrayUnion held recv args p
Counted row.ArrayRepeat held recv args block p = OfArray row.ArrayRepeat held recv args p
Counted row.ArrayJoin held recv args block p = OfArray row.ArrayJoin held recv args p
Counted row.ArrayText held recv args block p = OfArray row.ArrayText held recv args p
Counted row.HashElement held recv args block p = OfHash row.HashElement held recv args block p
Counted row.HashFetch held recv args block p = OfHash row.HashFetch held recv args block p
Counted row.HashHasValue held recv args block p = OfHash row.HashHasValue held recv args block p
Counted row.HashKeyOf held recv args block p = OfHash row.HashKeyOf held recv args block p
Counted row.HashEquality held recv args block p = OfHash row.HashEquality held recv args block p
Counted row.HashText held recv args block p = OfHash row.HashText held recv args block p
Counted (row.Order r) held recv args block p = p ≡ ordering.begun held r recv args

abbrev pub Unless : Option Cause → Held → Planned Stage → Type 0 → Type 0
Unless None held p Further = Further
Unless (Some c) held p Further = p ≡ refuses held c

-- the number of arguments is checked first
abbrev pub Starts : ComparingRow → Held → Value → List Value → Option ObjId → Planned Stage → Type 0
Starts r held recv args block p =
    Unless (miscounted (length args) (counts r).0 (Some (counts r).1)) held p (Counted r held recv args block p)

-- what comes next by an answer
abbrev pub GoesOn : Held → Stage → Value → Planned Stage → Type 0
GoesOn held negates v p = p ≡ gives held (truth (not (is_true v)))
GoesOn held tests v p = p ≡ gives held (truth (is_true v))
GoesOn held hands v p = p ≡ gives held v
GoesOn held missing v p = p ≡ fail_absent held v
GoesOn held (orders o) v p = p ≡ ordering.answered held o v
GoesOn held (asks name w) v p = asking.GoesOn name held w v p
