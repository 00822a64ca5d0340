-- In the bodies that lines make, and in those within, no check fails: down a program, body by body.
use Rattle.std.proofs.Common.{◌≡◌, ◌<◌, ◌≤◌, ℕ, zero, suc, ◌+◌, List, [], ◌∷◌, ◌++◌, length, arith, refl, sym, ap, ◌∙◌, subst, Bool, true, false, nat_eq, nat_lt, length-append, append_assoc, inl, inr, if◌then◌else◌}
use Rattle.std.specs.Prelude.{Option, Some, None, slice_get, ◌||◌}
use Rattle.std.proofs.lemmas.Bool.{lt-ltb, eq-eqb, and_from}
use Rattle.rite_code.specs.declared.code.Irep.{Irep}
use Rattle.rite_code.specs.declared.code.PoolItem.{PoolItem}
use Rattle.rite_code.specs.Code.{Program, program}
use Rattle.scope_resolver.specs.declared.body_kind.BodyKind.{BodyKind}
use Rattle.scope_resolver.specs.declared.body_kind.BodyKind.TheVariants as kind
use Rattle.scope_resolver.specs.Layout.{Slots, Scopes, seen_around, has_parameters}
use Rattle.code_outline.specs.Layout.{layout}
use Rattle.code_outline.specs.Makers.{Made, child_made, numbered, made_in, made_from, first_maker, maker_of, is_function, around, further, scope_out}
use Rattle.code_outline.specs.declared.maker.Maker.{Maker}
use Rattle.code_outline.specs.declared.maker.Purpose.{Purpose}
use Rattle.code_outline.specs.declared.maker.Purpose.TheVariants as purpose
use Rattle.code_verifier.specs.Checks.{Bad, first, in_function, takes_arguments, binds, has_maker, is_local, body_number, variable_holds, child_holds, is_maker, makes_once, body_bad, bodies_bad}
use Rattle.gen_parts.specs.declared.line.Line.{Line}
use Rattle.gen_parts.specs.declared.line.Line.TheVariants as line
use Rattle.gen_parts.specs.declared.assembling.Head.{Head}
use Rattle.gen_parts.specs.Pieces.{Piece}
use Rattle.gen_parts.specs.Assembly.{size, places, assembled}
use Rattle.code_laws.proofs.Serves.{Seat}
use Rattle.code_laws.proofs.Wells.{kind_for, Sound, IsMade, none, plain, makes}
use Rattle.code_laws.proofs.Checking.{Stood, Used}
use Rattle.code_laws.proofs.Numbers.{mades, made_is, made_next, Outside, skipped, found_first, none_before, none_behind, none_both, mades_none, block_length, below_more, inner_outside, child_at}
use Rattle.code_laws.proofs.Bodywise.{body_of, laid, body_passes}

-- ## What bodies make

from_append : (n : ℕ) (bs cs : List Irep) → made_from 2 n (bs ++ cs) ≡ made_from 2 n bs ++ made_from 2 (n + length bs)
    cs
unfolding made_from
from_append n [] cs = ap (λ (k : ℕ). made_from 2 k cs) (omega arith)
from_append n (b ∷ bs) cs =
    ap (λ (ms : List Made). made_in n b (layout 2 b.code) ++ ms) (from_append (n + 1) bs cs)
    ∙ sym (append_assoc (made_in n b (layout 2 b.code)) (made_from 2 (n + 1) bs) (made_from 2 (n + 1 + length bs) cs))
    ∙ ap (λ (k : ℕ). (made_in n b (layout 2 b.code) ++ made_from 2 (n + 1) bs) ++ made_from 2 k cs) (omega arith)

-- the bodies of a block and those behind it
block_from : (n : ℕ) (h : Head) (pool : List PoolItem) (symbols : List (List ℕ)) (q : Piece) (bs : List Irep)
    → made_from 2 n (assembled h pool symbols q ++ bs)
    ≡ made_in n (body_of h pool symbols q) (layout 2 (body_of h pool symbols q).code)
    ++ (made_from 2 (n + 1) q.bodies ++ made_from 2 (n + (1 + length q.bodies)) bs)
unfolding made_from assembled
block_from n h pool symbols q bs =
    let b = body_of h pool symbols q in
    ap (λ (ms : List Made). made_in n b (layout 2 b.code) ++ ms)
    (from_append (n + 1) q.bodies bs
    ∙ ap (λ (k : ℕ). made_from 2 (n + 1) q.bodies ++ made_from 2 k bs) (omega arith))

seen_length : (k : BodyKind) (sc : Scopes) → length (seen_around k sc) ≤ length sc
seen_length kind.Main sc = omega arith
seen_length kind.Method sc = omega arith
seen_length kind.Block sc = omega arith
seen_length kind.Class sc = omega arith

-- what the lines of a body make
pub lines_made : (n : ℕ) (k : BodyKind) (mine : Slots) (sc : Scopes) (h : Head) (pool : List PoolItem)
    (symbols : List (List ℕ)) (q : Piece) → Sound k mine sc h pool symbols q
    → IsMade (mine ∷ seen_around k sc) 0 (n + 1) q.lines q.children q.bodies
    → length (mine ∷ seen_around k sc) ≤ 65536 → length q.bodies ≤ 65535
    → made_in n (body_of h pool symbols q) (layout 2 (body_of h pool symbols q).code)
    ≡ mades n h.wide 0 q.lines q.children
lines_made n k mine sc h pool symbols q s m deep few =
    let b = body_of h pool symbols q in
    ap (made_in n b) (laid n k mine sc h pool symbols q s m deep few)
    ∙ made_is n b h.wide (places h.wide 0 q.lines) 0 [] m refl refl

-- nothing is made outside of the numbers of bodies
pub from_none : {sc : Scopes} {i m : ℕ} {ls : List Line} {cs : List ℕ} {bs : List Irep} (j : ℕ)
    → IsMade sc i m ls cs bs → length sc ≤ m → m + length bs ≤ 65536 → 0 < m → Outside j m (length bs)
    → first_maker j (made_from 2 m bs) ≡ None
unfolding made_from first_maker
from_none j none deep few some o = refl
from_none j (plain l u h) deep few some o = from_none j h deep few some o
from_none j (makes {sc} {child} {number} {ls} {cs} {all} bs o u mine h pool symbols q used sound is inner later) deep
    few some out =
    let size = block_length h pool symbols q bs all is in
    let far = subst (Outside j number) size out in
    let shallow = seen_length (kind_for u) sc in
    let b = body_of h pool symbols q in
    let inside = inner_outside j number (length q.bodies) (length bs) far in
    ap (λ (xs : List Irep). first_maker j (made_from 2 number xs)) is
    ∙ ap (first_maker j) (block_from number h pool symbols q bs)
    ∙ none_both j (made_in number b (layout 2 b.code))
    (made_from 2 (number + 1) q.bodies ++ made_from 2 (number + (1 + length q.bodies)) bs)
    (ap (first_maker j) (lines_made number (kind_for u) mine sc h pool symbols q sound inner
    (omega (arith, shallow, deep, few, size)) (omega (arith, few, size, some)))
    ∙ mades_none number h.wide 0 j inner inside)
    (none_both j (made_from 2 (number + 1) q.bodies) (made_from 2 (number + (1 + length q.bodies)) bs)
    (from_none j inner (omega (arith, shallow, deep)) (omega (arith, few, size)) (omega arith) inside)
    (from_none j later (omega (arith, deep)) (omega (arith, few, size)) (omega arith)
    (below_more j number (length q.bodies) (length bs) far)))

-- what makes nothing of that number may stand in between
drop_middle : (j : ℕ) (xs ms ys : List Made) → first_maker j ms ≡ None
    → first_maker j (xs ++ (ms ++ ys)) ≡ first_maker j (xs ++ ys)
unfolding first_maker
drop_middle j [] ms ys e = none_before j ms ys e
drop_middle j (x ∷ xs) ms ys e =
    ap (λ (o : Option Maker). if nat_eq x.child j then Some x.maker else o) (drop_middle j xs ms ys e)

-- ## Scopes

-- a body of a program whose locals are the innermost of those scopes, and how those further out are reached
pub record Seen (all : List Irep) (n : ℕ) (b : Irep) (sc : Scopes) : Type 0 where
  pub mine : Slots
  pub rest : Scopes
  pub are : sc ≡ mine ∷ rest
  pub at : slice_get all n ≡ Some b
  pub locals : b.locals ≡ 1 + length mine
  pub reaches : (between register : ℕ) (ss : Slots) → slice_get sc (between + 1) ≡ Some ss → 0 < register
      → register ≤ length ss
      → variable_holds (program 2 all) n (Some (record { register = register; between = between })) ≡ true

one_on : {A : Type 0} (x : A) (xs : List A) (n : ℕ) → slice_get (x ∷ xs) (n + 1) ≡ slice_get xs n
one_on x xs n = let e : n + 1 ≡ suc n = omega arith in ap (slice_get (x ∷ xs)) e

is_local_there : (b : Irep) (r : ℕ) → 0 < r → r < b.locals → is_local (Some b) r ≡ true
is_local_there b r h k = and_from (nat_lt 0 r) (nat_lt r b.locals) (lt-ltb 0 r h) (lt-ltb r b.locals k)

same_slots : (sc : Scopes) (mine : Slots) (rest : Scopes) (ss : Slots) → sc ≡ mine ∷ rest → slice_get sc 0 ≡ Some ss
    → length ss ≡ length mine
same_slots sc mine rest ss e f = ap count (sym f ∙ ap (λ (xs : Scopes). slice_get xs 0) e)
  where
    count : Option Slots → ℕ
    count None = 0
    count (Some xs) = length xs

-- from a block the locals of the body around it are reached, and what that body reaches
block_reaches : (all : List Irep) (n m here : ℕ) (b : Irep) (sc : Scopes) (u : Purpose) → Seen all n b sc
    → maker_of (program 2 all) m ≡ Some (record { body = n; at = here; purpose = u }) → is_function u ≡ true
    → (between register : ℕ) (ss : Slots) → slice_get sc between ≡ Some ss → 0 < register → register ≤ length ss
    → variable_holds (program 2 all) m (Some (record { register = register; between = between })) ≡ true
unfolding scope_out
block_reaches all n m here b sc u seen made block zero register ss e some within =
    let p = program 2 all in
    let same = same_slots sc seen.mine seen.rest ss seen.are e in
    ap (λ (x : Option Maker). is_local (body_number p (around x)) register) made
    ∙ ap (λ (f : Bool). is_local (body_number p (if f then Some n else None)) register) block
    ∙ ap (λ (x : Option Irep). is_local x register) seen.at
    ∙ is_local_there b register some (omega (arith, within, same, seen.locals))
block_reaches all n m here b sc u seen made block (suc c) register ss e some within =
    let p = program 2 all in
    ap (λ (x : Option Maker). is_local (body_number p (further (around x) (scope_out p c))) register) made
    ∙ ap (λ (f : Bool). is_local (body_number p (further (if f then Some n else None) (scope_out p c))) register) block
    ∙ seen.reaches c register ss (let f : c + 1 ≡ suc c = omega arith in ap (slice_get sc) f ∙ e) some within

child_reaches : (all : List Irep) (n m here : ℕ) (b : Irep) (sc : Scopes) (u : Purpose) (mine : Slots)
    → Seen all n b sc → maker_of (program 2 all) m ≡ Some (record { body = n; at = here; purpose = u })
    → (between register : ℕ) (ss : Slots) → slice_get (mine ∷ seen_around (kind_for u) sc) (between + 1) ≡ Some ss
    → 0 < register → register ≤ length ss
    → variable_holds (program 2 all) m (Some (record { register = register; between = between })) ≡ true
child_reaches all n m here b sc purpose.Lambda mine seen made between register ss e some within =
    block_reaches all n m here b sc purpose.Lambda seen made refl between register ss (sym (one_on mine sc between) ∙ e)
    some within
child_reaches all n m here b sc purpose.Block mine seen made between register ss e some within =
    block_reaches all n m here b sc purpose.Block seen made refl between register ss (sym (one_on mine sc between) ∙ e)
    some within
child_reaches all n m here b sc purpose.Method mine seen made between register ss e some within =
    absurd (nothing_there between (sym (one_on mine [] between) ∙ e))
  where
    nothing_there : (k : ℕ) → slice_get {X = Slots} [] k ≡ Some ss → ⊥
    nothing_there k f = absurd (cc f)
child_reaches all n m here b sc purpose.ClassBody mine seen made between register ss e some within =
    absurd (nothing_there between (sym (one_on mine [] between) ∙ e))
  where
    nothing_there : (k : ℕ) → slice_get {X = Slots} [] k ≡ Some ss → ⊥
    nothing_there k f = absurd (cc f)

function_kind : (u : Purpose) → kind_for u ≡ kind.Block → is_function u ≡ true
function_kind purpose.Lambda e = refl
function_kind purpose.Block e = refl
function_kind purpose.Method e = absurd (cc)
function_kind purpose.ClassBody e = absurd (cc)

never_main : (u : Purpose) → kind_for u ≡ kind.Main → ⊥
never_main purpose.Lambda e = absurd (cc)
never_main purpose.Block e = absurd (cc)
never_main purpose.Method e = absurd (cc)
never_main purpose.ClassBody e = absurd (cc)

takes_by : (u : Purpose) → binds u ≡ has_parameters (kind_for u)
takes_by purpose.Lambda = refl
takes_by purpose.Block = refl
takes_by purpose.Method = refl
takes_by purpose.ClassBody = refl

-- the same seat, by an equal kind and equal scopes
abbrev pub seat_by : (k l : BodyKind) (sc sd : Scopes) → l ≡ k → sd ≡ sc → Seat k sc → Seat l sd
seat_by k l sc sd e f s = record {
  program = s.program;
  number = s.number;
  function = λ g. s.function (sym e ∙ g);
  main = λ g. s.main (sym e ∙ g);
  reaches = λ between register ss g. s.reaches between register ss
      (ap (λ (x : Scopes). slice_get x (between + 1)) (sym f) ∙ g);
}

abbrev child_seat : (all : List Irep) (n m here : ℕ) (b : Irep) (sc : Scopes) (u : Purpose) (mine : Slots)
    → Seen all n b sc → maker_of (program 2 all) m ≡ Some (record { body = n; at = here; purpose = u })
    → Seat (kind_for u) (mine ∷ seen_around (kind_for u) sc)
child_seat all n m here b sc u mine seen made = record {
  program = program 2 all;
  number = m;
  function = λ e. ap in_function made ∙ function_kind u e;
  main = λ e. absurd (never_main u e);
  reaches = child_reaches all n m here b sc u mine seen made;
}

-- ## Down the bodies

first_append : (xs ys : List (Option Bad)) → first xs ≡ None → first (xs ++ ys) ≡ first ys
unfolding first
first_append [] ys e = refl
first_append (None ∷ xs) ys e = first_append xs ys e
first_append (Some x ∷ xs) ys e = absurd (cc e)

bodies_append : (p : Program) (n : ℕ) (bs cs : List Irep)
    → bodies_bad p n (bs ++ cs) ≡ bodies_bad p n bs ++ bodies_bad p (n + length bs) cs
unfolding bodies_bad
bodies_append p n [] cs = ap (λ (k : ℕ). bodies_bad p k cs) (omega arith)
bodies_append p n (b ∷ bs) cs =
    ap (λ (xs : List (Option Bad)). body_bad p n b ∷ xs) (bodies_append p (n + 1) bs cs
    ∙ ap (λ (k : ℕ). bodies_bad p (n + 1) bs ++ bodies_bad p k cs) (omega arith))

pub block_bad : (p : Program) (n : ℕ) (h : Head) (pool : List PoolItem) (symbols : List (List ℕ)) (q : Piece)
    (bs : List Irep)
    → body_bad p n (body_of h pool symbols q) ≡ None → first (bodies_bad p (n + 1) q.bodies) ≡ None
    → first (bodies_bad p (n + (1 + length q.bodies)) bs) ≡ None
    → first (bodies_bad p n (assembled h pool symbols q ++ bs)) ≡ None
unfolding bodies_bad assembled first
block_bad p n h pool symbols q bs e f g =
    ap (λ (x : Option Bad). first (x ∷ bodies_bad p (n + 1) (q.bodies ++ bs))) e
    ∙ ap first (bodies_append p (n + 1) q.bodies bs)
    ∙ first_append (bodies_bad p (n + 1) q.bodies) (bodies_bad p (n + 1 + length q.bodies) bs) f
    ∙ ap (λ (k : ℕ). first (bodies_bad p k bs)) (omega arith) ∙ g

-- the bodies stand in the program from that number on
abbrev pub Stand : List Irep → ℕ → List Irep → Type 0
Stand all m bs = (k : ℕ) (x : Irep) → slice_get bs k ≡ Some x → slice_get all (m + k) ≡ Some x

left_get : (bs cs : List Irep) (k : ℕ) (x : Irep) → slice_get bs k ≡ Some x → slice_get (bs ++ cs) k ≡ Some x
left_get [] cs k x e = absurd (cc e)
left_get (b ∷ bs) cs zero x e = e
left_get (b ∷ bs) cs (suc k) x e = left_get bs cs k x e

right_get : (bs cs : List Irep) (k n : ℕ) (x : Irep) → n ≡ length bs + k → slice_get cs k ≡ Some x
    → slice_get (bs ++ cs) n ≡ Some x
right_get [] cs k n x e f = ap (slice_get cs) (omega (arith, e)) ∙ f
right_get (b ∷ bs) cs k zero x e f = absurd (omega (arith, e))
right_get (b ∷ bs) cs k (suc n) x e f = right_get bs cs k n x (omega (arith, e)) f

pub record Done (all : List Irep) (n : ℕ) (b : Irep) (wide : Bool) (here : ℕ) (ls : List Line) (m : ℕ) (bs : List Irep)
    : Type 0 where
  pub used : Used (program 2 all) n b wide here ls
  pub fine : first (bodies_bad (program 2 all) m bs) ≡ None

either_way : (b : Bool) → (b || true) ≡ true
either_way true = refl
either_way false = refl

-- where the bodies of a block stand
first_own : (h : Head) (pool : List PoolItem) (symbols : List (List ℕ)) (q : Piece) (bs : List Irep)
    → slice_get (assembled h pool symbols q ++ bs) 0 ≡ Some (body_of h pool symbols q)
unfolding assembled
first_own h pool symbols q bs = refl

one_more : (k : ℕ) → 1 + k ≡ suc k
one_more k = omega arith

inner_own : (h : Head) (pool : List PoolItem) (symbols : List (List ℕ)) (q : Piece) (bs : List Irep) (k : ℕ) (x : Irep)
    → slice_get q.bodies k ≡ Some x → slice_get (assembled h pool symbols q ++ bs) (1 + k) ≡ Some x
unfolding assembled
inner_own h pool symbols q bs k x e =
    ap (slice_get (body_of h pool symbols q ∷ (q.bodies ++ bs))) (one_more k) ∙ left_get q.bodies bs k x e

later_own : (h : Head) (pool : List PoolItem) (symbols : List (List ℕ)) (q : Piece) (bs : List Irep) (k : ℕ) (x : Irep)
    → slice_get bs k ≡ Some x → slice_get (assembled h pool symbols q ++ bs) (1 + length q.bodies + k) ≡ Some x
unfolding assembled
later_own h pool symbols q bs k x e =
    ap (slice_get (body_of h pool symbols q ∷ (q.bodies ++ bs))) (suc_of q)
    ∙ right_get q.bodies bs k (length q.bodies + k) x refl e
  where
    suc_of : (q : Piece) → 1 + length q.bodies + k ≡ suc (length q.bodies + k)
    suc_of q = omega arith

once_there : (p : Program) (n here c : ℕ) (u : Purpose)
    → maker_of p c ≡ Some (record { body = n; at = here; purpose = u })
    → is_maker n here (maker_of p c) ≡ true
once_there p n here c u e =
    ap (is_maker n here) e ∙ and_from (nat_eq n n) (nat_eq here here) (eq-eqb n n refl) (eq-eqb here here refl)

pub descend : {sc : Scopes} {i m : ℕ} {ls : List Line} {cs : List ℕ} {bs : List Irep} (every : List Irep) (n : ℕ)
    (b : Irep)
    (wide : Bool) (here : ℕ) (before : List ℕ) → IsMade sc i m ls cs bs → Seen every n b sc → b.children ≡ before ++ cs
    → length before ≡ i → length sc ≤ m → m + length bs ≤ 65536 → 0 < m → Stand every m bs
    → ((j : ℕ) → m ≤ j → j < m + length bs
    → maker_of (program 2 every) j ≡ first_maker j (mades n wide here ls cs ++ made_from 2 m bs))
    → Done every n b wide here ls m bs
unfolding bodies_bad first
descend every n b wide here before none seen kids long deep few some stand made = record { used = tt; fine = refl }
descend every n b wide here before (plain {sc} {child} {number} {ls} {cs} {bs} l u h) seen kids long deep few some
    stand made =
    let p = program 2 every in
    let next = here + size wide l in
    let d = descend every n b wide next before h seen kids long deep few some stand (λ j low high. made j low high
    ∙ ap (λ (x : Option (ℕ × Purpose)). first_maker j (made_next n here x cs (λ ds. mades n wide next ls ds)
    ++ made_from 2 number bs)) u) in
    record {
      used = (
        ap (child_holds b) u,
        ap (λ (x : Option (ℕ × Purpose)). makes_once p n here (child_made n b here x)) u,
        d.used,
      );
      fine = d.fine;
    }
descend every n b wide here before (makes {sc} {child} {number} {ls} {cs} {all} bs o u mine h pool symbols q used
    sound is inner later) seen kids long deep few some stand made =
    let p = program 2 every in
    let next = here + size wide (line.Does o) in
    let mk : Maker = record { body = n; at = here; purpose = u } in
    let head : Made = record { child = number; maker = mk } in
    let own = body_of h pool symbols q in
    let size = block_length h pool symbols q bs all is in
    let shallow = seen_length (kind_for u) sc in
    let deeper : length (mine ∷ seen_around (kind_for u) sc) ≤ number + 1 = omega (arith, shallow, deep) in
    let inner_few : number + 1 + length q.bodies ≤ 65536 = omega (arith, few, size) in
    let others = mades n wide next ls cs in
    let mine_made = mades number h.wide 0 q.lines q.children in
    let within = made_from 2 (number + 1) q.bodies in
    let after = made_from 2 (number + (1 + length q.bodies)) bs in
    let all_made : (j : ℕ) → number ≤ j → j < number + length all
    → maker_of p j ≡ first_maker j (head ∷ (others ++ (mine_made ++ (within ++ after)))) =
    λ j low high. made j low high
    ∙ ap (λ (x : Option (ℕ × Purpose)). first_maker j (made_next n here x (number ∷ cs) (λ ds. mades n wide next ls ds)
    ++ made_from 2 number all)) used
    ∙ ap (λ (xs : List Irep). first_maker j (head ∷ (others ++ made_from 2 number xs))) is
    ∙ ap (λ (ms : List Made). first_maker j (head ∷ (others ++ ms))) (block_from number h pool symbols q bs)
    ∙ ap (λ (ms : List Made). first_maker j (head ∷ (others ++ (ms ++ (within ++ after)))))
    (lines_made number (kind_for u) mine sc h pool symbols q sound inner (omega (arith, deeper, few, size))
    (omega (arith, few, size, some))) in
    let maker : maker_of p number ≡ Some mk =
    all_made number (omega arith) (omega (arith, size))
    ∙ found_first number head (others ++ (mine_made ++ (within ++ after))) refl in
    let found : slice_get b.children child ≡ Some number =
    ap (λ (xs : List ℕ). slice_get xs child) kids ∙ child_at before cs number child long in
    let stand_own : slice_get every number ≡ Some own =
    let same : number ≡ number + 0 = omega arith in ap (slice_get every) same
    ∙ stand 0 own (ap (λ (xs : List Irep). slice_get xs 0) is ∙ first_own h pool symbols q bs) in
    let stand_inner : Stand every (number + 1) q.bodies = λ k x
    e. (let same : number + 1 + k ≡ number + (1 + k) = omega arith in ap (slice_get every) same)
    ∙ stand (1 + k) x (ap (λ (xs : List Irep). slice_get xs (1 + k)) is ∙ inner_own h pool symbols q bs k x e) in
    let stand_later : Stand every (number + (1 + length q.bodies)) bs = λ k x
    e. (let same : number + (1 + length q.bodies) + k ≡ number + (1 + length q.bodies + k) = omega arith in
    ap (slice_get every) same) ∙ stand (1 + length q.bodies + k) x
    (ap (λ (xs : List Irep). slice_get xs (1 + length q.bodies + k)) is
    ∙ later_own h pool symbols q bs k x e) in
    let seat = child_seat every n number here b sc u mine seen maker in
    let seen_own : Seen every number own (mine ∷ seen_around (kind_for u) sc) = record {
      mine = mine;
      rest = seen_around (kind_for u) sc;
      are = refl;
      at = stand_own;
      locals = sound.locals;
      reaches = seat.reaches;
    } in
    let inner_made : (j : ℕ) → number + 1 ≤ j → j < number + 1 + length q.bodies
    → maker_of p j ≡ first_maker j (mine_made ++ within) =
    λ j low high. all_made j (omega (arith, low)) (omega (arith, high, size))
    ∙ skipped j head (others ++ (mine_made ++ (within ++ after))) (inl (omega (arith, low)))
    ∙ none_before j others (mine_made ++ (within ++ after)) (mades_none n wide next j later (inl (omega (arith, high))))
    ∙ ap (first_maker j) (sym (append_assoc mine_made within after))
    ∙ none_behind j (mine_made ++ within) after (from_none j later (omega (arith, deep)) (omega (arith, few, size))
    (omega arith) (inl (omega (arith, high)))) in
    let later_made : (j : ℕ) → number + (1 + length q.bodies) ≤ j → j < number + (1 + length q.bodies) + length bs
    → maker_of p j ≡ first_maker j (others ++ after) =
    λ j low high. all_made j (omega (arith, low)) (omega (arith, high, size))
    ∙ skipped j head (others ++ (mine_made ++ (within ++ after))) (inl (omega (arith, low)))
    ∙ drop_middle j others mine_made (within ++ after) (mades_none number h.wide 0 j inner (inr (omega (arith, low))))
    ∙ drop_middle j others within after (from_none j inner deeper inner_few (omega arith) (inr (omega (arith, low)))) in
    let d = descend every number own h.wide 0 [] inner seen_own refl refl deeper inner_few (omega arith) stand_inner
    inner_made in
    let e = descend every n b wide next (before ++ number ∷ []) later seen
    (kids ∙ sym (append_assoc before (number ∷ []) cs)) (omega (arith, length-append before (number ∷ []), long))
    (omega (arith, deep)) (omega (arith, few, size)) (omega arith) stand_later later_made in
    let takes : takes_arguments (maker_of p number) ≡ has_parameters (kind_for u) =
    ap takes_arguments maker ∙ takes_by u in
    let stood : Stood p number sound.room own = record {
      seat = seat_by (kind_for u) sound.room.kind (mine ∷ seen_around (kind_for u) sc) sound.room.scopes sound.kind
          sound.scopes seat;
      program = refl;
      number = refl;
      takes = takes ∙ ap has_parameters (sym sound.kind);
      has = ap (λ (x : Option Maker). nat_eq number 0 || has_maker x) maker ∙ either_way (nat_eq number 0);
      registers = sym sound.registers;
      pool = sound.items;
      symbols = sound.names;
    } in
    record {
      used = (
        ap (child_holds b) used ∙ lt-ltb child (length b.children) (omega (
          arith,
          ap length kids,
          length-append before (number ∷ cs),
          long,
        )),
        ap (λ (x : Option (ℕ × Purpose)). makes_once p n here (child_made n b here x)) used
            ∙ ap (λ (x : Option ℕ). makes_once p n here (numbered n here u x)) found
            ∙ once_there p n here number u maker,
        e.used,
      );
      fine = ap (λ (xs : List Irep). first (bodies_bad p number xs)) is
          ∙ block_bad p number h pool symbols q bs
          (body_passes number (kind_for u) mine sc h pool symbols q sound inner (omega (arith, deeper, few, size))
          (omega (arith, few, size, some)) every stood takes d.used) d.fine e.fine;
    }
