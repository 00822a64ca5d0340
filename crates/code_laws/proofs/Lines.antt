-- Pieces one after the other, in which nothing is wrong.
use Rattle.std.proofs.Common.{◌≡◌, ◌≤◌, ℕ, ◌+◌, List, [], ◌∷◌, ◌++◌, length, arith, refl, ap, ◌∙◌, subst, length-append, append_assoc}
use Rattle.std.specs.Prelude.{None}
use Rattle.rite_code.specs.declared.code.Irep.{Irep}
use Rattle.rite_code.specs.declared.operation.Operation.{Operation}
use Rattle.rite_code.specs.declared.code.PoolItem.{PoolItem}
use Rattle.scope_resolver.specs.Layout.{Scopes}
use Rattle.code_outline.specs.Makers.{use_in}
use Rattle.gen_parts.specs.declared.line.Line.{Line}
use Rattle.gen_parts.specs.declared.line.Line.TheVariants as line
use Rattle.gen_parts.specs.declared.line.Catch.{Catch}
use Rattle.gen_parts.specs.declared.emitter.Spot.{Spot}
use Rattle.gen_parts.specs.declared.assembling.Head.{Head}
use Rattle.gen_parts.specs.Assembly.{assembled}
use Rattle.gen_parts.specs.Pieces.{Piece, past, behind, nothing, both, puts, does, jump, catches}
use Rattle.code_laws.proofs.Serves.{Room, Serves}
use Rattle.code_laws.proofs.Wells.{FineLine, FineLines, FineCatch, FineCatches, weight_of, weights, use_of, IsMade, none, plain, makes, Well}

-- ## Lines

pub fine_farther : (m : Room) (e d : ℕ) (l : Line) → e ≤ d → FineLine m e l → FineLine m d l
fine_farther m e d (line.Does o) h f = f
fine_farther m e d (line.Jump to) h f = omega (arith, h, f)
fine_farther m e d (line.JumpIf r to) h f = (f.0, omega (arith, h, f.1))
fine_farther m e d (line.JumpNot r to) h f = (f.0, omega (arith, h, f.1))
fine_farther m e d (line.Leave to) h f = omega (arith, h, f)

pub lines_farther : (m : Room) (e d : ℕ) (ls : List Line) → e ≤ d → FineLines m e ls → FineLines m d ls
lines_farther m e d [] h f = tt
lines_farther m e d (l ∷ ls) h f = (fine_farther m e d l h f.0, lines_farther m e d ls h f.1)

pub lines_append : (m : Room) (e : ℕ) (ls ks : List Line) → FineLines m e ls → FineLines m e ks
    → FineLines m e (ls ++ ks)
lines_append m e [] ks f g = g
lines_append m e (l ∷ ls) ks f g = (f.0, lines_append m e ls ks f.1 g)

catches_farther : (e d : ℕ) (cs : List Catch) → e ≤ d → FineCatches e cs → FineCatches d cs
catches_farther e d [] h f = tt
catches_farther e d (c ∷ cs) h f = (
  record { covers = f.0.covers; within = omega (arith, h, f.0.within); lands = omega (arith, h, f.0.lands) },
  catches_farther e d cs h f.1,
)

catches_append : (e : ℕ) (cs ds : List Catch) → FineCatches e cs → FineCatches e ds → FineCatches e (cs ++ ds)
catches_append e [] ds f g = g
catches_append e (c ∷ cs) ds f g = (f.0, catches_append e cs ds f.1 g)

pub weights_append : (ls ks : List Line) → weights (ls ++ ks) ≡ weights ls + weights ks
weights_append [] ks = omega arith
weights_append (l ∷ ls) ks = omega (arith, weights_append ls ks)

made_at : (sc : Scopes) (i n j k : ℕ) (ls : List Line) (cs : List ℕ) (bs : List Irep) → i ≡ j → n ≡ k
    → IsMade sc i n ls cs bs → IsMade sc j k ls cs bs
made_at sc i n j k ls cs bs e d h =
    subst (λ (x : ℕ). IsMade sc j x ls cs bs) d (subst (λ (x : ℕ). IsMade sc x n ls cs bs) e h)

pub assembled_length : (h : Head) (pool : List PoolItem) (symbols : List (List ℕ)) (q : Piece)
    → length (assembled h pool symbols q) ≡ 1 + length q.bodies
unfolding assembled
assembled_length h pool symbols q = omega arith

pub made_append : {sc : Scopes} {i n : ℕ} {ls : List Line} {cs : List ℕ} {bs : List Irep} (ks : List Line)
    (ds : List ℕ) (es : List Irep) → IsMade sc i n ls cs bs → IsMade sc (i + length cs) (n + length bs) ks ds es
    → IsMade sc i n (ls ++ ks) (cs ++ ds) (bs ++ es)
made_append ks ds es (none {sc} {child} {number}) g = made_at sc (child + 0) (number + 0) child number ks ds es
    (omega arith) (omega arith) g
made_append ks ds es (plain l u h) g = plain l u (made_append ks ds es h g)
made_append ks ds es (makes {sc} {child} {number} {ls} {cs} {all} bs o u own h pool symbols q used sound is inner
    later) g =
    let size : length all ≡ 1 + length q.bodies + length bs =
    ap length is ∙ length-append (assembled h pool symbols q) bs
    ∙ ap (λ (k : ℕ). k + length bs) (assembled_length h pool symbols q) in
    makes (bs ++ es) o u own h pool symbols q used sound
    (ap (λ (xs : List Irep). xs ++ es) is ∙ append_assoc (assembled h pool symbols q) bs es) inner
    (made_append ks ds es later (made_at sc (child + length (number ∷ cs)) (number + length all)
    (child + 1 + length cs) (number + (1 + length q.bodies) + length bs) ks ds es (omega arith) (omega (arith, size))
    g))

-- ## Pieces

unfoldable pub tall : Piece → ℕ
tall p = length p.lines

pub line-past : (s : Spot) (p : Piece) → (past s p).line ≡ s.line + tall p
unfolding past tall
line-past s p = refl

pub line-behind : (s : Spot) → (behind s).line ≡ s.line + 1
unfolding behind
line-behind s = refl

pub tall-both : (p q : Piece) → tall (both p q) ≡ tall p + tall q
unfolding both tall
tall-both p q = length-append p.lines q.lines

pub tall-puts : (l : Line) → tall (puts l) ≡ 1
unfolding puts tall
tall-puts l = omega arith

pub tall-catches : (c : Catch) → tall (catches c) ≡ 0
unfolding catches tall
tall-catches c = omega arith

pub tall-nothing : tall nothing ≡ 0
unfolding nothing tall
tall-nothing = omega arith

pub ruleset heights = (line-past, line-behind, tall-both, tall-puts, tall-catches, tall-nothing)

module _ (m : Room) where
  -- a piece whose jumps lead no further than its end
  abbrev pub Own : Spot → Piece → ℕ → ℕ → Type 0
  Own s p bytes bodies = Well m (s.line + tall p) s p bytes bodies

  pub farther : (e d : ℕ) (s : Spot) (p : Piece) (a x : ℕ) → e ≤ d → Well m e s p a x → Well m d s p a x
  farther e d s p a x h w = record {
    lines = lines_farther m e d p.lines h w.lines;
    catches = catches_farther e d p.catches h w.catches;
    light = w.light;
    count = w.count;
    made = w.made;
  }

  pub lower : (e : ℕ) (s : Spot) (p : Piece) (a b x y : ℕ) → a ≤ b → x ≡ y → Well m e s p a x → Well m e s p b y
  lower e s p a b x y h k w = record {
    lines = w.lines;
    catches = w.catches;
    light = omega (arith, h, w.light);
    count = omega (arith, k, w.count);
    made = w.made;
  }

  pub joined : (e : ℕ) (s : Spot) (p q : Piece) (a b x y : ℕ) → Well m e s p a x → Well m e (past s p) q b y
      → Well m e s (both p q) (a + b) (x + y)
  unfolding both past
  joined e s p q a b x y v w =
      let lines = weights_append p.lines q.lines in
      let bodies = length-append p.bodies q.bodies in
      record {
        lines = lines_append m e p.lines q.lines v.lines w.lines;
        catches = catches_append e p.catches q.catches v.catches w.catches;
        light = omega (arith, lines, v.light, w.light);
        count = omega (arith, bodies, v.count, w.count);
        made = made_append q.lines q.children q.bodies v.made w.made;
      }

  -- two pieces with jumps of their own
  pub chain : (s : Spot) (p q : Piece) (a b x y : ℕ) → Own s p a x → Own (past s p) q b y
      → Own s (both p q) (a + b) (x + y)
  chain s p q a b x y v w =
      let high = tall-both p q in
      let there = line-past s p in
      let e = s.line + tall (both p q) in
      joined e s p q a b x y (farther (s.line + tall p) e s p a x (omega (arith, high)) v)
      (farther ((past s p).line + tall q) e (past s p) q b y (omega (arith, high, there)) w)

  pub nothing_well : (s : Spot) → Own s nothing 0 0
  unfolding nothing
  nothing_well s = record { lines = tt; catches = tt; light = omega arith; count = refl; made = none }

  pub puts_well : (e : ℕ) (s : Spot) (l : Line) (a : ℕ) → FineLine m e l → use_of l ≡ None → weight_of l ≤ a
      → Well m e s (puts l) a 0
  unfolding puts
  puts_well e s l a f u h = record {
    lines = (f, tt);
    catches = tt;
    light = omega (arith, h);
    count = refl;
    made = plain l u none;
  }

  pub does_well : (s : Spot) (o : Operation) (a : ℕ) → Serves m o → use_in o ≡ None → weight_of (line.Does o) ≤ a
      → Own s (does o) a 0
  does_well s o a f u h = puts_well (s.line + tall (does o)) s (line.Does o) a f u h

  -- a jump back
  pub back_well : (s : Spot) (to : ℕ) → to ≤ s.line → Own s (jump to) 6 0
  back_well s to h = puts_well (s.line + tall (jump to)) s (line.Jump to) 6 (omega (arith, h)) refl (omega arith)

  pub guard_well : (s : Spot) (c : Catch) (q : Piece) (a x : ℕ) → FineCatch (s.line + tall q) c → Own s q a x
      → Own s (both (catches c) q) a x
  unfolding both catches tall
  guard_well s c q a x f w = record {
    lines = w.lines;
    catches = (f, w.catches);
    light = w.light;
    count = w.count;
    made = w.made;
  }
