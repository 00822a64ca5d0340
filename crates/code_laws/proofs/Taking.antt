-- What the code of a form takes in a file is within what is counted of it: one clause for each form.
use Rattle.std.proofs.Common.{◌≡◌, ◌≤◌, ℕ, zero, suc, ◌+◌, ◌*◌, max, List, [], ◌∷◌, ◌++◌, length, replicate, arith, length-append, Bool, true, false, nat_lt, if◌then◌else◌}
use Rattle.std.specs.Prelude.{Option, Some, None}
use Rattle.std.proofs.lemmas.List.{length-map}
use Rattle.rite_code.specs.declared.code.Irep.{Irep}
use Rattle.rite_code.specs.declared.code.PoolItem.{PoolItem}
use Rattle.rite_code.specs.declared.operation.Operation.{Operation}
use Rattle.rite_code.specs.declared.operation.Operation.TheVariants as op
use Rattle.ir_core.specs.CoreForm as form
use Rattle.ir_core.specs.CoreForm.{Local, Parameters, CoreForm, Body, Maybe, Forms, Items, Pairs, Branches, Clauses, Receiver}
use Rattle.ir_walk.specs.Walk.{Step, met, entering, walked, walked_all, walked_maybe, walked_items, walked_pairs, walked_branches, walked_clauses, walked_receiver, walked_body}
use Rattle.ir_walk.specs.Width.{has_splat}
use Rattle.ir_walk.specs.declared.extent.Extent.TheVariants as extent
use Rattle.ir_counts.specs.Counts.{tally}
use Rattle.ir_counts.specs.Tally.{no_form}
use Rattle.ir_counts.specs.Tables.{items_code, item_count, pair_count, count, classes, branch_count}
use Rattle.scope_resolver.specs.declared.body_kind.BodyKind.{BodyKind}
use Rattle.scope_resolver.specs.declared.body_kind.BodyKind.TheVariants as kind
use Rattle.scope_resolver.specs.Layout.{Scopes}
use Rattle.gen_parts.specs.declared.line.Line.TheVariants as line
use Rattle.gen_parts.specs.declared.emitter.Spot.{Spot}
use Rattle.gen_parts.specs.declared.assembling.Head.{Head}
use Rattle.gen_parts.specs.Assembly.{places, entry_by, assembled}
use Rattle.gen_parts.specs.Pieces.{Piece, behind, nothing, both, does}
use Rattle.gen_forms.specs.declared.context.Loop.{Loop}
use Rattle.gen_forms.specs.declared.calls.Passing.TheVariants as passed
use Rattle.gen_forms.specs.Gen.{Context, Code, gen, gather, gather_pairs, gather_text, in_turn, others_in_turn, choose, gen_receiver, pass_in_registers, gen_maybe, super_block, gen_scope, gen_parent, handle, test_classes, test_others, starts, with_jumps, body_code, loop, passed_by, called_by, rescued_by, ensured_by, break_by, next_by, own_block, jumps_to, has_clauses, is_given, passing, count_operand, by_defaults, entered_by, ahead, layout, opening, first_spot, ends, pool_of}
use Rattle.code_laws.proofs.Shares.{cost, cost_maybe, cost_all, cost_items, cost_pairs, cost_branches, cost_clauses, cost_receiver}
use Rattle.code_laws.proofs.Sums.{tallied_bytes, cost_is}
use Rattle.code_laws.proofs.Lines.{weights_append}
use Rattle.code_laws.proofs.Starts.{starts_length, length_replicate}
use Rattle.code_laws.proofs.Records.{records_within}
use Rattle.code_laws.proofs.Amounts.{worth, sized, sized_entering, sized_leaving, filed, filed_append, Amount, joined, turned, less, whole, none_there, line_of, one, entry, made_by}

-- ## What stands between parts

-- more is counted, and fewer bodies are
later : {p : Piece} {a d : ℕ} {u v : List Step} (w : List Step) → Amount p a d u v → sized v ≤ sized w
    → Amount p a d u w
later w h i = record { light = h.light; few = h.few; held = omega (arith, h.held, i) }

rises : {p : Piece} {a d : ℕ} {u v : List Step} → Amount p a d u v → sized u ≤ sized v
rises h = omega (arith, h.held)

-- code that is counted in another order: the last part before the middle one
mixed : {p q k : Piece} {a b c d e f : ℕ} {u v w x : List Step} → Amount p a d u v → Amount q b e w x → Amount k c f v w
    → Amount (both (both p q) k) ((a + b) + c) ((d + e) + f) u x
unfolding both
mixed {p} {q} {k} g h i =
    let lines = weights_append p.lines q.lines in
    let all_lines = weights_append (p.lines ++ q.lines) k.lines in
    let entries = length-append p.catches q.catches in
    let all_entries = length-append (p.catches ++ q.catches) k.catches in
    let bodies = filed_append p.bodies q.bodies in
    let all_bodies = filed_append (p.bodies ++ q.bodies) k.bodies in
    record {
      light = omega (arith, lines, all_lines, entries, all_entries, g.light, h.light, i.light);
      few = omega (arith, entries, all_entries, g.few, h.few, i.few);
      held = omega (arith, bodies, all_bodies, g.held, h.held, i.held);
    }

break_amount : (l : Option Loop) (r : ℕ) (u : List Step) → Amount (break_by l r) 16 0 u u
break_amount None r u = less (one _) (omega arith) (omega arith)
break_amount (Some l) r u = joined (one _) (one _)

next_amount : (l : Option Loop) (r : ℕ) (u : List Step) → Amount (next_by l r) 8 0 u u
next_amount None r u = (one _)
next_amount (Some l) r u = (one _)

loop_amount : (first : Bool) (t b : Code) (c : Context) (s : Spot) (r m n : ℕ) (u v w : List Step)
    → ((d : Context) (x : Spot) → Amount (t d x r) m m u v) → ((d : Context) (x : Spot) → Amount (b d x r) n n v w)
    → Amount (loop first t b c s r) (64 + m + n) (64 + m + n) u w
loop_amount false t b c s r m n u v w f g =
    less (joined (one _) (joined (one _) (joined (joined (f _ _) (joined (one _) (joined (g _ _) (one _)))) (one _)))) (omega arith) (omega arith)
loop_amount true t b c s r m n u v w f g =
    less (joined (one _) (joined (one _) (joined (turned (joined (one _) (g _ _)) (joined (f _ _) (one _))) (one _)))) (omega arith) (omega arith)

-- Calls: the items in registers, or in an Array.
passed_amount : (is : Items) (splat many : Bool) (each gathered : Code) (c : Context) (s : Spot) (r : ℕ)
    (u v : List Step)
    → ((x : Spot) → Amount (each c x (r + 1)) (cost_items is) (cost_items is) u v)
    → ((x : Spot) → Amount (gathered c x (r + 1)) (8 * item_count is + cost_items is) (cost_items is) u v)
    → Amount (passed_by (if splat then passed.InArray
    else (if many then passed.InArrayOf (item_count is) else passed.InRegisters (item_count is))) each gathered c s r)
    (6 + (if (if splat then true else many) then 8 * item_count is else 0) + cost_items is) (cost_items is) u v
passed_amount is true many each gathered c s r u v f g =
    less (joined (line_of 6 (line.Does (op.Array (r + 1) 0)) u (omega arith)) (g _)) (omega arith) (omega arith)
passed_amount is false true each gathered c s r u v f g =
    less (joined (f s) (line_of 6 (line.Does (op.Array (r + 1) (item_count is))) v (omega arith))) (omega arith)
    (omega arith)
passed_amount is false false each gathered c s r u v f g = less (f s) (omega arith) (omega arith)

called_amount : (o : Option Operation) (receiver each arguments block : Code) (n : ℕ) (send : Operation) (c : Context)
    (s : Spot) (r a b d e m : ℕ) (u v w x : List Step) → Amount (receiver c s r) a a u v
    → ((y : Spot) → Amount (each c y (r + 1)) b b v w) → ((y : Spot) → Amount (arguments c y r) (m + b) b v w)
    → ((y : Spot) → Amount (block c y (r + 1 + n)) d e w x)
    → Amount (called_by o receiver each arguments block n send c s r) (8 + a + (m + b) + d) (a + b + e) u x
called_amount None receiver each arguments block n send c s r a b d e m u v w x f g h i =
    less (joined (joined f (h _)) (joined (i _) (one _))) (omega arith) (omega arith)
called_amount (Some o) receiver each arguments block n send c s r a b d e m u v w x f g h i =
    less (later x (joined f (joined (g _) (one _))) (rises (i s))) (omega arith) (omega arith)

-- Clauses and an ensure part: the part that is done where nothing was raised is counted behind the clauses.
rescued_amount : (has : Bool) (b o handlers : Code) (c : Context) (s : Spot) (r l m n k : ℕ) (u v w x : List Step)
    → Amount (b c s r) l l u v → ((y : Spot) → Amount (o c y r) m m w x)
    → ((d : Context) (y : Spot) → Amount (handlers d y r) n k v w)
    → Amount (rescued_by has b o handlers c s r) (29 + l + m + n) ((if has then 64 else 0) + l + m + k) u x
rescued_amount true b o handlers c s r l m n k u v w x f g h =
    less (joined (entry _) (mixed f (g _) (joined (one _) (joined (one _) (h _ _))))) (omega arith) (omega arith)
rescued_amount false b o handlers c s r l m n k u v w x f g h =
    less (joined (later w f (rises (h c s))) (g _)) (omega arith) (omega arith)

ensured_amount : (has : Bool) (p e : Code) (c : Context) (s : Spot) (r l k m : ℕ) (u v w : List Step)
    → Amount (p c s r) l k u v → ((y : Spot) → Amount (e c y (r + 2)) m m v w)
    → Amount (ensured_by has p e c s r) (29 + l + m) (64 + k + m) u w
ensured_amount true p e c s r l k m u v w f g =
    less (joined (entry _) (joined (joined f (one _)) (joined (g _) (one _)))) (omega arith) (omega arith)
ensured_amount false p e c s r l k m u v w f g = less (later w f (rises (g s))) (omega arith) (omega arith)

some_clauses : (cs : Clauses) → (if has_clauses cs then 64 else 0) + 64 ≤ 96 + 48 * classes cs
some_clauses form.no_clauses = omega arith
some_clauses (form.clause es t d cs) = omega arith

jumps_amount : (ns : List ℕ) (u : List Step) → Amount (jumps_to ns) (8 * length ns) 0 u u
jumps_amount [] u = none_there u
jumps_amount (n ∷ ns) u = less (joined (one _) (jumps_amount ns u)) (omega arith) (omega arith)

own_block_amount : (s : Spot) (r : ℕ) (u : List Step) → Amount (own_block s r) 20 0 u u
own_block_amount s r u =
    less (joined (one _) (joined (one _) (line_of 4 (line.Does (op.BlkPush r)) u (omega arith)))) (omega arith) (omega arith)

defaults_amount : (n : ℕ) (straight jumping : Code) (c : Context) (s : Spot) (r a d : ℕ) (u v : List Step)
    → Amount (straight c s r) a d u v → Amount (jumping c s r) (8 * (n + 1) + 8 + a) d u v
    → Amount (by_defaults n straight jumping c s r) (32 * n + a) d u v
defaults_amount zero straight jumping c s r a d u v f g = less f (omega arith) (omega arith)
defaults_amount (suc n) straight jumping c s r a d u v f g = less g (omega arith) (omega arith)

entered_amount : (k : BodyKind) (ps : Parameters) (straight jumping : Code) (c : Context) (s : Spot) (r a d : ℕ)
    (u v : List Step) → ((t : Spot) → Amount (straight c t r) a d u v)
    → ((t : Spot) → Amount (jumping c t r) (8 * (length ps.optional + 1) + 8 + a) d u v)
    → Amount (entered_by k ps straight jumping c s r) (8 + 32 * length ps.optional + a) d u v
entered_amount kind.Main ps straight jumping c s r a d u v f g = less (f s) (omega arith) (omega arith)
entered_amount kind.Class ps straight jumping c s r a d u v f g = less (f s) (omega arith) (omega arith)
entered_amount kind.Method ps straight jumping c s r a d u v f g =
    less (joined (one _) (defaults_amount (length ps.optional) straight jumping c (behind s) r a d u v (f _) (g _)))
    (omega arith) (omega arith)
entered_amount kind.Block ps straight jumping c s r a d u v f g =
    less (joined (one _) (defaults_amount (length ps.optional) straight jumping c (behind s) r a d u v (f _) (g _)))
    (omega arith) (omega arith)

code_counted : (p : Parameters) (ls : List Local) (f : CoreForm) → (tally (form.body p ls f)).code ≡ cost f
code_counted p ls f =
    let i = tallied_bytes no_form (walked extent.Body [] f) in
    let j = cost_is f [] in
    omega (arith, i, j)

-- a form that begins with defaults, with the jumps to them
jumping_within : (f : CoreForm) (u v : List Step)
    → ((c : Context) (s : Spot) (r : ℕ) → Amount (gen c s r f) (cost f) (cost f) u v)
    → (c : Context) (s : Spot) (r n : ℕ) → Amount (with_jumps c s r n f) (8 * n + 8 + cost f) (cost f) u v
jumping_within (form.seq es) u v g c s r n =
    less (joined (jumps_amount (starts c (ahead s n) r n es) u) (g c (ahead s n) r))
    (omega (arith, starts_length es c (ahead s n) r n)) (omega arith)
jumping_within f u v g c s r n =
    less (later v (joined (jumps_amount (replicate n (ahead s n).line) u) (one _)) (rises (g c s r)))
    (omega (arith, length_replicate n (ahead s n).line)) (omega arith)

-- the code of a body, with its ENTER and its last instruction
module _ (p : Parameters) (ls : List Local) (f : CoreForm) (u v : List Step)
    (inside : (c : Context) (s : Spot) (r : ℕ) → Amount (gen c s r f) (cost f) (cost f) u v) where
  abbrev piece_of : BodyKind → Context → Spot → ℕ → Piece
  piece_of k c s r =
      both (entered_by k p (λ d x m. gen d x m f) (λ d x m. with_jumps d x m (length p.optional + 1) f) c s r)
      (does (ends k r))

  body_amount : (k : BodyKind) (c : Context) (s : Spot) (r : ℕ)
      → Amount (piece_of k c s r) (16 + 32 * length p.optional + cost f) (cost f) u v
  body_amount k c s r =
      less (joined (entered_amount k p (λ d x m. gen d x m f) (λ d x m. with_jumps d x m (length p.optional + 1) f) c s
      r (cost f) (cost f) u v (λ x. inside c x r)
      (λ x. jumping_within f u v inside c x r (length p.optional + 1))) (one _)) (omega arith) (omega arith)

  own_within : (k : BodyKind) (around : Scopes) (n : ℕ)
      → filed (body_code k around n (form.body p ls f)) + sized u ≤ worth (form.body p ls f) + sized v
  own_within k around n =
      let b = form.body p ls f in
      let t = tally b in
      let l = layout k b t in
      let c = opening k b around t in
      records_within b l.head (piece_of k c (first_spot n) l.first) (cost f) u v
      (less (body_amount k c (first_spot n) l.first) (omega (arith, code_counted p ls f)) (omega arith))

-- ## Forms

mutual
  pub amount : (f : CoreForm) (c : Context) (s : Spot) (r : ℕ) (u : List Step)
      → Amount (gen c s r f) (cost f) (cost f) u (walked extent.Program u f)
  amount form.nil c s r u = whole u form.nil (one _) (omega arith) (omega arith)
  amount form.truth c s r u = whole u form.truth (one _) (omega arith) (omega arith)
  amount form.falsehood c s r u = whole u form.falsehood (one _) (omega arith) (omega arith)
  amount form.self_ref c s r u = whole u form.self_ref (one _) (omega arith) (omega arith)
  amount (form.int x) c s r u = whole u (form.int x) (one _) (omega arith) (omega arith)
  amount (form.str x) c s r u = whole u (form.str x) (one _) (omega arith) (omega arith)
  amount (form.sym x) c s r u = whole u (form.sym x) (one _) (omega arith) (omega arith)
  amount (form.local x) c s r u = whole u (form.local x) (one _) (omega arith) (omega arith)
  amount (form.own x) c s r u = whole u (form.own x) (one _) (omega arith) (omega arith)
  amount form.exception c s r u = whole u form.exception (one _) (omega arith) (omega arith)
  amount (form.set_local x e) c s r u =
      whole u (form.set_local x e) (joined (amount e c s r _) (one _)) (omega arith) (omega arith)
  amount (form.ivar x) c s r u = whole u (form.ivar x) (one _) (omega arith) (omega arith)
  amount (form.set_ivar x e) c s r u =
      whole u (form.set_ivar x e) (joined (amount e c s r _) (one _)) (omega arith) (omega arith)
  amount (form.gvar x) c s r u = whole u (form.gvar x) (one _) (omega arith) (omega arith)
  amount (form.set_gvar x e) c s r u =
      whole u (form.set_gvar x e) (joined (amount e c s r _) (one _)) (omega arith) (omega arith)
  amount (form.constant x) c s r u = whole u (form.constant x) (one _) (omega arith) (omega arith)
  amount (form.top_constant x) c s r u = whole u (form.top_constant x) (joined (one _) (one _)) (omega arith) (omega arith)
  amount (form.in_constant e x) c s r u =
      whole u (form.in_constant e x) (joined (amount e c s r _) (one _)) (omega arith) (omega arith)
  amount (form.set_constant x e) c s r u =
      whole u (form.set_constant x e) (joined (amount e c s r _) (one _)) (omega arith) (omega arith)
  amount (form.set_in_constant e x v) c s r u =
      whole u (form.set_in_constant e x v) (joined (joined (amount e c s r _) (amount v c _ (r + 1) _)) (one _))
      (omega arith) (omega arith)
  amount (form.array is) c s r u =
      whole u (form.array is) (joined (one _) (gather_amount is c _ r _)) (omega arith) (omega arith)
  amount (form.hash ps) c s r u =
      whole u (form.hash ps) (joined (one _) (pairs_amount ps c _ r _)) (omega arith) (omega arith)
  amount (form.range e v x) c s r u =
      whole u (form.range e v x) (joined (joined (amount e c s r _) (amount v c _ (r + 1) _)) (one _)) (omega arith)
      (omega arith)
  amount (form.text es) c s r u =
      whole u (form.text es) (joined (one _) (texts_amount es c _ r _)) (omega arith) (omega arith)
  amount (form.intern e) c s r u =
      whole u (form.intern e) (joined (amount e c s r _) (one _)) (omega arith) (omega arith)
  amount (form.seq es) c s r u = whole u (form.seq es) (turn_amount es c s r _) (omega arith) (omega arith)
  amount (form.cond bs e) c s r u =
      whole u (form.cond bs e) (choose_amount bs (λ d t n. gen d t n e) c s r (cost e) _ _ (λ t. amount e c t r _))
      (omega arith) (omega arith)
  amount (form.and_form e v) c s r u =
      whole u (form.and_form e v) (joined (amount e c s r _) (joined (one _) (amount v c _ r _))) (omega arith) (omega arith)
  amount (form.or_form e v) c s r u =
      whole u (form.or_form e v) (joined (amount e c s r _) (joined (one _) (amount v c _ r _))) (omega arith) (omega arith)
  amount (form.while_form first t b) c s r u =
      let u0 = met u (form.while_form first t b) in
      let u1 = walked extent.Program u0 t in
      whole u (form.while_form first t b) (loop_amount first (λ d x n. gen d x n t) (λ d x n. gen d x n b) c s r (cost t)
      (cost b) u0 u1 (walked extent.Program u1 b) (λ d x. amount t d x r u0) (λ d x. amount b d x r u1)) (omega arith)
      (omega arith)
  amount (form.call e x is m) c s r u =
      let u0 = met u (form.call e x is m) in
      let u1 = walked_receiver extent.Program u0 e in
      let u2 = walked_items extent.Program u1 is in
      whole u (form.call e x is m) (called_amount _ (λ d t n. gen_receiver d t n e)
      (λ d t n. pass_in_registers d t n is) _ (λ d t n. gen_maybe d t n m) _ _ c s r (cost_receiver e) (cost_items is)
      (cost_maybe m) (cost_maybe m) (6 + items_code is) u0 u1 u2 (walked_maybe extent.Program u2 m)
      (receiver_amount e c s r u0) (λ y. pass_amount is c y (r + 1) u1)
      (λ y. passed_amount is (has_splat is) (nat_lt 253 (item_count is)) (λ d t n. pass_in_registers d t n is)
      (λ d t n. gather d t n is) c y r u1 u2 (λ z. pass_amount is c z (r + 1) u1)
      (λ z. gather_amount is c z (r + 1) u1)) (λ y. maybe_amount m c y _ u2)) (omega arith) (omega arith)
  amount (form.yield_form is) c s r u =
      let u0 = met u (form.yield_form is) in
      let u1 = walked_items extent.Program u0 is in
      whole u (form.yield_form is) (joined (line_of 4 (line.Does (op.BlkPush r)) u0 (omega arith)) (joined
      (passed_amount is (has_splat is) (nat_lt 253 (item_count is)) (λ d t n. pass_in_registers d t n is)
      (λ d t n. gather d t n is) c _ r u0 u1 (λ z. pass_amount is c z (r + 1) u0) (λ z. gather_amount is c z (r + 1) u0))
      (line_of 6 (line.Does (op.Call r (count_operand (passing is)))) u1 (omega arith)))) (omega arith) (omega arith)
  amount (form.super_form is m) c s r u =
      let u0 = met u (form.super_form is m) in
      let u1 = walked_items extent.Program u0 is in
      whole u (form.super_form is m) (joined
      (passed_amount is (has_splat is) (nat_lt 253 (item_count is)) (λ d t n. pass_in_registers d t n is)
      (λ d t n. gather d t n is) c s r u0 u1 (λ z. pass_amount is c z (r + 1) u0) (λ z. gather_amount is c z (r + 1) u0))
      (joined (super_amount m c _ _ u1)
      (line_of 6 (line.Does (op.Super r (count_operand (passing is)))) (walked_maybe extent.Program u1 m) (omega arith))))
      (omega arith) (omega arith)
  amount (form.function b) c s r u =
      let u0 = met u (form.function b) in
      whole u (form.function b) (made_by _ s.body _ u0 (walked_body extent.Program u0 b)
      (body_held b kind.Block c.scopes s.body u0)) (omega arith) (omega arith)
  amount (form.lambda b) c s r u =
      let u0 = met u (form.lambda b) in
      whole u (form.lambda b) (made_by _ s.body _ u0 (walked_body extent.Program u0 b)
      (body_held b kind.Block c.scopes s.body u0)) (omega arith) (omega arith)
  amount (form.begin_form b cs o e) c s r u =
      let u0 = met u (form.begin_form b cs o e) in
      let u1 = walked extent.Program u0 b in
      let u2 = walked_clauses extent.Program u1 cs in
      let u3 = walked_maybe extent.Program u2 o in
      whole u (form.begin_form b cs o e) (ensured_amount (is_given e)
      (rescued_by (has_clauses cs) (λ d t n. gen d t n b) (λ d t n. gen_maybe d t n o) (λ d t n. handle d t n cs))
      (λ d t n. gen_maybe d t n e) c s r (29 + cost b + cost_maybe o + (8 + 48 * classes cs + cost_clauses cs))
      ((if has_clauses cs then 64 else 0) + cost b + cost_maybe o + cost_clauses cs) (cost_maybe e) u0 u3
      (walked_maybe extent.Program u3 e)
      (rescued_amount (has_clauses cs) (λ d t n. gen d t n b) (λ d t n. gen_maybe d t n o) (λ d t n. handle d t n cs) c s
      r (cost b) (cost_maybe o) (8 + 48 * classes cs + cost_clauses cs) (cost_clauses cs) u0 u1 u2 u3 (amount b c s r u0)
      (λ y. maybe_amount o c y r u2) (λ d y. handle_amount cs d y r u1)) (λ y. maybe_amount e c y (r + 2) u3))
      (omega arith) (omega (arith, some_clauses cs))
  amount (form.return_form e) c s r u =
      whole u (form.return_form e) (joined (amount e c s r _) (one _)) (omega arith) (omega arith)
  amount (form.break_form e) c s r u =
      whole u (form.break_form e) (joined (amount e c s r _) (break_amount c.loop r _)) (omega arith) (omega arith)
  amount (form.next_form e) c s r u =
      whole u (form.next_form e) (joined (amount e c s r _) (next_amount c.loop r _)) (omega arith) (omega arith)
  amount form.retry c s r u = whole u form.retry (one _) (omega arith) (omega arith)
  amount (form.define x b) c s r u =
      let u0 = met u (form.define x b) in
      whole u (form.define x b) (joined (one _) (made_by _ _ _ u0 (walked_body extent.Program u0 b)
      (body_held b kind.Method c.scopes _ u0))) (omega arith) (omega arith)
  amount (form.define_on e x b) c s r u =
      let u0 = walked extent.Program (met u (form.define_on e x b)) e in
      whole u (form.define_on e x b) (joined (joined (amount e c s r _) (one _))
      (made_by _ _ _ u0 (walked_body extent.Program u0 b) (body_held b kind.Method c.scopes _ u0))) (omega arith)
      (omega arith)
  amount (form.class_form scope x parent b) c s r u =
      let u0 = met u (form.class_form scope x parent b) in
      let u1 = walked_maybe extent.Program u0 scope in
      let u2 = walked_maybe extent.Program u1 parent in
      whole u (form.class_form scope x parent b) (joined (joined (scope_amount scope c s r u0)
      (joined (parent_amount parent c _ (r + 1) u1) (one _)))
      (made_by _ _ _ u2 (walked_body extent.Program u2 b) (body_held b kind.Class c.scopes _ u2))) (omega arith)
      (omega arith)
  amount (form.module_form scope x b) c s r u =
      let u0 = met u (form.module_form scope x b) in
      let u1 = walked_maybe extent.Program u0 scope in
      whole u (form.module_form scope x b) (joined (joined (scope_amount scope c s r u0) (one _))
      (made_by _ _ _ u1 (walked_body extent.Program u1 b) (body_held b kind.Class c.scopes _ u1))) (omega arith)
      (omega arith)
  amount (form.singleton_class e b) c s r u =
      let u0 = walked extent.Program (met u (form.singleton_class e b)) e in
      whole u (form.singleton_class e b) (joined (joined (amount e c s r _) (one _))
      (made_by _ _ _ u0 (walked_body extent.Program u0 b) (body_held b kind.Class c.scopes _ u0))) (omega arith)
      (omega arith)
  amount (form.alias_form x y) c s r u = whole u (form.alias_form x y) (joined (one _) (one _)) (omega arith) (omega arith)
  amount (form.undef_form x) c s r u = whole u (form.undef_form x) (joined (one _) (one _)) (omega arith) (omega arith)
  amount (form.defined x y form.absent) c s r u =
      whole u (form.defined x y form.absent) (one _) (omega arith) (omega arith)
  amount (form.defined x y (form.there e)) c s r u =
      whole u (form.defined x y (form.there e)) (joined (amount e c s r _) (one _)) (omega arith) (omega arith)
  amount (form.item e x) c s r u =
      whole u (form.item e x) (joined (amount e c s r _) (one _)) (omega arith) (omega arith)
  amount (form.rest_of e x y) c s r u =
      whole u (form.rest_of e x y) (joined (amount e c s r _) (one _)) (omega arith) (omega arith)
  amount (form.tail_of e x y) c s r u =
      whole u (form.tail_of e x y) (joined (amount e c s r _) (one _)) (omega arith) (omega arith)

  gather_amount : (is : Items) (c : Context) (s : Spot) (r : ℕ) (u : List Step)
      → Amount (gather c s r is) (8 * item_count is + cost_items is) (cost_items is) u
      (walked_items extent.Program u is)
  gather_amount form.no_items c s r u = none_there u
  gather_amount (form.plain e is) c s r u =
      less (joined (joined (amount e c s (r + 1) u) (one _)) (gather_amount is c _ r _)) (omega arith) (omega arith)
  gather_amount (form.splat e is) c s r u =
      less (joined (joined (amount e c s (r + 1) u) (one _)) (gather_amount is c _ r _)) (omega arith) (omega arith)

  pairs_amount : (ps : Pairs) (c : Context) (s : Spot) (r : ℕ) (u : List Step)
      → Amount (gather_pairs c s r ps) (8 * pair_count ps + cost_pairs ps) (cost_pairs ps) u
      (walked_pairs extent.Program u ps)
  pairs_amount form.no_pairs c s r u = none_there u
  pairs_amount (form.pair e v ps) c s r u =
      less (joined (joined (joined (amount e c s (r + 1) u) (amount v c _ (r + 1 + 1) _)) (one _)) (pairs_amount ps c _ r _))
      (omega arith) (omega arith)

  texts_amount : (es : Forms) (c : Context) (s : Spot) (r : ℕ) (u : List Step)
      → Amount (gather_text c s r es) (8 * count es + cost_all es) (cost_all es) u (walked_all extent.Program u es)
  texts_amount form.none c s r u = none_there u
  texts_amount (form.more e es) c s r u =
      less (joined (joined (amount e c s (r + 1) u) (one _)) (texts_amount es c _ r _)) (omega arith) (omega arith)

  turn_amount : (es : Forms) (c : Context) (s : Spot) (r : ℕ) (u : List Step)
      → Amount (in_turn c s r es) (8 + cost_all es) (cost_all es) u (walked_all extent.Program u es)
  turn_amount form.none c s r u = less (one _) (omega arith) (omega arith)
  turn_amount (form.more e es) c s r u =
      less (joined (amount e c s r u) (others_amount es c _ r _)) (omega arith) (omega arith)

  others_amount : (es : Forms) (c : Context) (s : Spot) (r : ℕ) (u : List Step)
      → Amount (others_in_turn c s r es) (cost_all es) (cost_all es) u (walked_all extent.Program u es)
  others_amount form.none c s r u = none_there u
  others_amount (form.more e es) c s r u = joined (amount e c s r u) (others_amount es c _ r _)

  choose_amount : (bs : Branches) (o : Code) (c : Context) (s : Spot) (r d : ℕ) (u v : List Step)
      → ((t : Spot) → Amount (o c t r) d d (walked_branches extent.Program u bs) v)
      → Amount (choose c s r bs o) (16 * branch_count bs + cost_branches bs + d) (cost_branches bs + d) u v
  choose_amount form.no_branches o c s r d u v f = less (f s) (omega arith) (omega arith)
  choose_amount (form.branch t b bs) o c s r d u v f =
      less (joined (amount t c s r u) (joined (one _) (joined (amount b c _ r _) (joined (one _) (choose_amount bs o c _ r d _ v f)))))
      (omega arith) (omega arith)

  receiver_amount : (e : Receiver) (c : Context) (s : Spot) (r : ℕ) (u : List Step)
      → Amount (gen_receiver c s r e) (cost_receiver e) (cost_receiver e) u (walked_receiver extent.Program u e)
  receiver_amount (form.to e) c s r u = amount e c s r u
  receiver_amount form.on_self c s r u = none_there u
  receiver_amount form.bare c s r u = none_there u

  pass_amount : (is : Items) (c : Context) (s : Spot) (r : ℕ) (u : List Step)
      → Amount (pass_in_registers c s r is) (cost_items is) (cost_items is) u (walked_items extent.Program u is)
  pass_amount form.no_items c s r u = none_there u
  pass_amount (form.plain e is) c s r u = joined (amount e c s r u) (pass_amount is c _ (r + 1) _)
  pass_amount (form.splat e is) c s r u = joined (amount e c s r u) (pass_amount is c _ (r + 1) _)

  maybe_amount : (o : Maybe) (c : Context) (s : Spot) (r : ℕ) (u : List Step)
      → Amount (gen_maybe c s r o) (cost_maybe o) (cost_maybe o) u (walked_maybe extent.Program u o)
  maybe_amount form.absent c s r u = none_there u
  maybe_amount (form.there e) c s r u = amount e c s r u

  super_amount : (o : Maybe) (c : Context) (s : Spot) (r : ℕ) (u : List Step)
      → Amount (super_block c s r o) (20 + cost_maybe o) (cost_maybe o) u (walked_maybe extent.Program u o)
  super_amount form.absent c s r u = own_block_amount s r u
  super_amount (form.there e) c s r u = less (amount e c s r u) (omega arith) (omega arith)

  scope_amount : (o : Maybe) (c : Context) (s : Spot) (r : ℕ) (u : List Step)
      → Amount (gen_scope c s r o) (8 + cost_maybe o) (cost_maybe o) u (walked_maybe extent.Program u o)
  scope_amount form.absent c s r u = (one _)
  scope_amount (form.there e) c s r u = less (amount e c s r u) (omega arith) (omega arith)

  parent_amount : (o : Maybe) (c : Context) (s : Spot) (r : ℕ) (u : List Step)
      → Amount (gen_parent c s r o) (8 + cost_maybe o) (cost_maybe o) u (walked_maybe extent.Program u o)
  parent_amount form.absent c s r u = (one _)
  parent_amount (form.there e) c s r u = less (amount e c s r u) (omega arith) (omega arith)

  handle_amount : (cs : Clauses) (c : Context) (s : Spot) (r : ℕ) (u : List Step)
      → Amount (handle c s r cs) (8 + 48 * classes cs + cost_clauses cs) (cost_clauses cs) u
      (walked_clauses extent.Program u cs)
  handle_amount form.no_clauses c s r u = (one _)
  handle_amount (form.clause es t d cs) c s r u =
      less (joined (classes_amount es c s r u) (joined (one _) (joined (joined (maybe_amount t c _ (r + 2) _)
      (amount d c _ r _)) (joined (one _) (handle_amount cs c _ r _))))) (omega arith) (omega arith)

  classes_amount : (es : Forms) (c : Context) (s : Spot) (r : ℕ) (u : List Step)
      → Amount (test_classes c s r es) (16 * max 1 (count es) + cost_all es) (cost_all es) u
      (walked_all extent.Program u es)
  classes_amount form.none c s r u = less (joined (one _) (one _)) (omega arith) (omega arith)
  classes_amount (form.more e es) c s r u =
      less (joined (joined (amount e c s (r + 2) u) (one _)) (more_classes_amount es c _ r _)) (omega arith) (omega arith)

  more_classes_amount : (es : Forms) (c : Context) (s : Spot) (r : ℕ) (u : List Step)
      → Amount (test_others c s r es) (16 * count es + cost_all es) (cost_all es) u (walked_all extent.Program u es)
  more_classes_amount form.none c s r u = none_there u
  more_classes_amount (form.more e es) c s r u =
      less (joined (one _) (joined (joined (amount e c _ (r + 2) u) (one _)) (more_classes_amount es c _ r _))) (omega arith)
      (omega arith)

  -- the bytes of the records of a body and those in it
  body_held : (b : Body) (k : BodyKind) (around : Scopes) (n : ℕ) (u : List Step)
      → filed (body_code k around n b) + sized u ≤ sized (walked_body extent.Program u b)
  body_held (form.body p ls f) k around n u =
      let b = form.body p ls f in
      let v = entering u b in
      let w = walked extent.Program v f in
      omega (
        arith,
        own_within p ls f v w (λ c s r. amount f c s r v) k around n,
        sized_entering u b,
        sized_leaving w,
      )

pub own_held : (p : Parameters) (ls : List Local) (f : CoreForm) (k : BodyKind) (around : Scopes) (n : ℕ)
    (u : List Step)
    → filed (body_code k around n (form.body p ls f)) + sized u
    ≤ worth (form.body p ls f) + sized (walked extent.Program u f)
own_held p ls f k around n u =
    own_within p ls f u (walked extent.Program u f) (λ c s r. amount f c s r u) k around n

-- 64 for each catch entry of the first body
abbrev pub FirstFew : List Irep → ℕ → Type 0
FirstFew [] d = Unit
FirstFew (b ∷ bs) d = 64 * length b.catches ≤ d

few_first : (h : Head) (items : List PoolItem) (names : List (List ℕ)) (q : Piece) (d : ℕ) → 64 * length q.catches ≤ d
    → FirstFew (assembled h items names q) d
unfolding assembled
few_first h items names q d few =
    omega (arith, few, length-map q.catches (entry_by (places h.wide 0 q.lines)))

pub first_few : (h : Head) (items : List PoolItem) (names : List (List ℕ)) (q : Piece) (d : ℕ)
    → FirstFew (assembled h items names q) d → 64 * length q.catches ≤ d
unfolding assembled
first_few h items names q d few =
    omega (arith, few, length-map q.catches (entry_by (places h.wide 0 q.lines)))

pub entries_few : (p : Parameters) (ls : List Local) (f : CoreForm) (k : BodyKind) (around : Scopes) (n : ℕ)
    → FirstFew (body_code k around n (form.body p ls f)) (cost f)
entries_few p ls f k around n =
    let b = form.body p ls f in
    let t = tally b in
    let l = layout k b t in
    let c = opening k b around t in
    few_first l.head (pool_of t) t.symbols (piece_of p ls f [] (walked extent.Program [] f) (λ d s r. amount f d s r [])
    k c (first_spot n) l.first) (cost f)
    (body_amount p ls f [] (walked extent.Program [] f) (λ d s r. amount f d s r []) k c (first_spot n) l.first).few
