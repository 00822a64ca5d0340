-- The bodies of a program within the limits are within them, and fit for a file.
use Rattle.std.proofs.Common.{◌≤◌, ℕ, List, ◌++◌, length, arith, sym, subst}
use Rattle.std.specs.List.{All}
use Rattle.std.proofs.lemmas.List.{length-map}
use Rattle.std.proofs.lemmas.List.Elements.{All-cons, All-nil, All-append}
use Rattle.rite_code.specs.declared.code.Irep.{Irep}
use Rattle.rite_code.specs.declared.code.PoolItem.{PoolItem}
use Rattle.rite_code.specs.Code.{IsBody}
use Rattle.scope_resolver.specs.declared.body_kind.BodyKind.{BodyKind}
use Rattle.scope_resolver.specs.Layout.{Slots, Scopes}
use Rattle.gen_parts.specs.declared.line.Line.{Line}
use Rattle.gen_parts.specs.declared.assembling.Head.{Head}
use Rattle.gen_parts.specs.Pieces.{Piece}
use Rattle.gen_parts.specs.Assembly.{places, instructions, entry_by, assembled}
use Rattle.code_laws.specs.Counted.{IsCounted}
use Rattle.code_laws.proofs.Wells.{IsMade, none, plain, makes, Sound}
use Rattle.code_laws.proofs.Assembled.{length_encodings, total_is, sizes_weights}
use Rattle.code_laws.proofs.Numbers.{block_length}
use Rattle.code_laws.proofs.Bodywise.{body_of}

-- each child has a body
kids_few : {sc : Scopes} {i m : ℕ} {ls : List Line} {cs : List ℕ} {bs : List Irep} → IsMade sc i m ls cs bs
    → length cs ≤ length bs
kids_few none = omega arith
kids_few (plain l u h) = kids_few h
kids_few (makes {sc} {child} {number} {ls} {cs} {all} bs o u own h pool symbols q used sound is inner later) =
    omega (arith, block_length h pool symbols q bs all is, kids_few later)

body_counted : (k : BodyKind) (own : Slots) (sc : Scopes) (h : Head) (pool : List PoolItem)
    (symbols : List (List ℕ)) (q : Piece) → Sound k own sc h pool symbols q → length q.children ≤ 65535
    → IsCounted (body_of h pool symbols q)
body_counted k own sc h pool symbols q s few =
    let is = instructions h.wide (places h.wide 0 q.lines) 0 q.lines in
    record {
      registers = s.few;
      locals = s.room_for_locals;
      pool = s.few_items;
      symbols = s.few_names;
      children = few;
      code = omega (
        arith,
        length_encodings is,
        total_is h.wide (places h.wide 0 q.lines) 0 q.lines,
        sizes_weights h.wide q.lines,
        s.small,
      );
    }

body_whole : (k : BodyKind) (own : Slots) (sc : Scopes) (h : Head) (pool : List PoolItem)
    (symbols : List (List ℕ)) (q : Piece) → Sound k own sc h pool symbols q → length q.children ≤ 65535
    → IsBody 2 (body_of h pool symbols q)
body_whole k own sc h pool symbols q s few =
    let counted = body_counted k own sc h pool symbols q s few in
    record {
      has_self = omega (arith, s.locals);
      locals = s.room_for_locals;
      narrow = λ e. absurd (cc);
      code = omega (arith, counted.code);
      catches = omega (arith, s.few_catches, length-map q.catches (entry_by (places h.wide 0 q.lines)));
      pool_count = omega (arith, s.few_items);
      pool_items = s.fine_items;
      pool = s.items_apart;
      symbol_count = omega (arith, s.few_names);
      symbol_texts = s.fine_names;
      symbols = s.names_apart;
      child_count = omega (arith, few);
    }

-- what is so of each sound body, in all bodies
module _ (P : Irep → Type 0)
    (each : (k : BodyKind) (own : Slots) (sc : Scopes) (h : Head) (pool : List PoolItem) (symbols : List (List ℕ))
    (q : Piece) → Sound k own sc h pool symbols q → length q.children ≤ 65535 → P (body_of h pool symbols q)) where
  block_all : (h : Head) (pool : List PoolItem) (symbols : List (List ℕ)) (q : Piece) (bs : List Irep)
      → P (body_of h pool symbols q) → All P q.bodies → All P bs → All P (assembled h pool symbols q ++ bs)
  unfolding assembled
  block_all h pool symbols q bs own inner later =
      All-cons P (body_of h pool symbols q) (q.bodies ++ bs) own (All-append P q.bodies bs inner later)

  made_all : {sc : Scopes} {i m : ℕ} {ls : List Line} {cs : List ℕ} {bs : List Irep} → IsMade sc i m ls cs bs
      → length bs ≤ 65535 → All P bs
  made_all none few = All-nil P
  made_all (plain l u h) few = made_all h few
  made_all (makes {sc} {child} {number} {ls} {cs} {all} bs o u own h pool symbols q used sound is inner later) few =
      let size = block_length h pool symbols q bs all is in
      subst (All P) (sym is) (block_all h pool symbols q bs
      (each _ own sc h pool symbols q sound (omega (arith, kids_few inner, few, size)))
      (made_all inner (omega (arith, few, size))) (made_all later (omega (arith, few, size))))

  program_all : (k : BodyKind) (own : Slots) (sc : Scopes) (h : Head) (pool : List PoolItem)
      (symbols : List (List ℕ)) (q : Piece) {seen : Scopes} {m : ℕ} → Sound k own sc h pool symbols q
      → IsMade seen 0 m q.lines q.children q.bodies → length q.bodies ≤ 65535 → All P (assembled h pool symbols q)
  unfolding assembled
  program_all k own sc h pool symbols q s m few =
      All-cons P (body_of h pool symbols q) q.bodies
      (each k own sc h pool symbols q s (omega (arith, kids_few m, few))) (made_all m few)

pub program_counted : (k : BodyKind) (own : Slots) (sc : Scopes) (h : Head) (pool : List PoolItem)
    (symbols : List (List ℕ)) (q : Piece) {seen : Scopes} {m : ℕ} → Sound k own sc h pool symbols q
    → IsMade seen 0 m q.lines q.children q.bodies → length q.bodies ≤ 65535
    → All IsCounted (assembled h pool symbols q)
program_counted k own sc h pool symbols q s m few = program_all IsCounted body_counted k own sc h pool symbols q s m few

pub program_bodies : (k : BodyKind) (own : Slots) (sc : Scopes) (h : Head) (pool : List PoolItem)
    (symbols : List (List ℕ)) (q : Piece) {seen : Scopes} {m : ℕ} → Sound k own sc h pool symbols q
    → IsMade seen 0 m q.lines q.children q.bodies → length q.bodies ≤ 65535
    → All (IsBody 2) (assembled h pool symbols q)
program_bodies k own sc h pool symbols q s m few = program_all (IsBody 2) body_whole k own sc h pool symbols q s m few
