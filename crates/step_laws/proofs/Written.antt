-- The bodies that the code of a program of plain forms, methods and blocks makes are those of its source, number by
-- number.
use Rattle.std.proofs.Common.{◌≡◌, ◌≤◌, ℕ, zero, suc, ◌+◌, List, [], ◌∷◌, ◌++◌, length, get_or, arith, refl, sym, ap, ◌∙◌, subst, append_assoc, true, false}
use Rattle.std.specs.Prelude.{slice_get, unwrap_or, is_some, Option, Some, None}
use Rattle.std.proofs.lemmas.List.{append-nil}
use Rattle.rite_code.specs.declared.code.Irep.{Irep}
use Rattle.rite_code.specs.declared.operation.Operation.{Operation}
use Rattle.rite_code.specs.declared.operation.Operation.TheVariants as op
use Rattle.ir_core.specs.CoreForm as form
use Rattle.ir_core.specs.CoreForm.{CoreForm, Body, Forms, Items, form_of}
use Rattle.ir_core.specs.Program as program
use Rattle.ir_core.specs.Program.{all_parameters, within_loop, within_class, has_defaults, is_form}
use Rattle.scope_resolver.specs.declared.body_kind.BodyKind.{BodyKind}
use Rattle.scope_resolver.specs.declared.body_kind.BodyKind.TheVariants as kind
use Rattle.scope_resolver.specs.Layout.{Scopes, scopes_in, seen_around}
use Rattle.gen_parts.specs.declared.line.Line.{Line}
use Rattle.gen_parts.specs.declared.line.Line.TheVariants as line
use Rattle.gen_parts.specs.declared.emitter.Spot.{Spot}
use Rattle.gen_parts.specs.declared.emitter.Held.{Held}
use Rattle.gen_parts.specs.declared.emitter.Held.TheVariants as held
use Rattle.gen_parts.specs.Emission.{line_by}
use Rattle.gen_parts.specs.Pieces.{Piece, past, behind, nothing, both, puts, does, jump, jump_if, leave, ◌⊕◌}
use Rattle.gen_forms.specs.declared.calls.Passing.{Passing}
use Rattle.gen_forms.specs.declared.calls.Passing.TheVariants as passed
use Rattle.gen_forms.specs.Gen as code
use Rattle.gen_forms.specs.declared.context.Loop.{Loop}
use Rattle.gen_forms.specs.Gen.{Context, Code, in_loop, gen, in_turn, others_in_turn, gather, loop, break_by, next_by, passed_by, called_by}
use Rattle.code_laws.proofs.Shares.{Fits, many}
use Rattle.code_laws.specs.Bound.{Knows}
use Rattle.code_laws.proofs.Operating.{AreShort}
use Rattle.def_eval.specs.Source.{Source, over, over_items, in_order, span, no_parameters, parameters_of, locals_of}
use Rattle.step_laws.specs.Bodies.{AreSingle}
use Rattle.step_laws.specs.Plain.{AreSeen, IsPlain}
use Rattle.eval_laws.specs.Kinds.{Kind, of_program, of_block, of_method, of_class, kinds, kinds_items}
use Rattle.eval_laws.specs.Standing.{FormStands}
use Rattle.step_laws.specs.Around.{Around}
use Rattle.step_laws.proofs.Fitting.{Around as Fit}
use Rattle.step_laws.proofs.Nested.{Closed, Inside, inside_first, inside_then}
use Rattle.step_laws.proofs.Making.{body_irep, class_irep}
use Rattle.step_laws.proofs.Catchless.{HasBodies, HaveBodies, bodies_both}

-- A body of a method or a block of the source, and its body in the code. Its form is one within what is around it, all of
-- which is bound.
pub record Written (s : Source) (k : BodyKind) (n : ℕ) (b : Body) (i : Irep) : Type 0 where
  pub around : Scopes
  pub out : Fit k around
  pub fits : Fits b
  pub few : many (form_of b) ≤ 65535
  pub within : program.Around
  pub in_block : within.loops ≡ true → k ≡ kind.Block
  pub formed : is_form within (form_of b) ≡ true
  pub stands : FormStands s within (n + 1) (form_of b)
  pub knows : Knows (scopes_in k b around) within
  pub single : AreSingle (parameters_of b)
  pub defaults : has_defaults (parameters_of b).optional (form_of b) ≡ true
  pub seen : AreSeen (all_parameters (parameters_of b) ++ locals_of b)
  pub plain : IsPlain (form_of b)
  pub sees : Around s n (seen_around k around)
  pub is : i ≡ body_irep k around n b

-- A body of a class or a module, which has no parameters.
pub record WrittenClass (s : Source) (n : ℕ) (b : Body) (i : Irep) : Type 0 where
  pub fits : Fits b
  pub few : many (form_of b) ≤ 65535
  pub formed : is_form (within_class (locals_of b)) (form_of b) ≡ true
  pub stands : FormStands s (within_class (locals_of b)) (n + 1) (form_of b)
  pub bare : parameters_of b ≡ no_parameters
  pub plain : IsPlain (form_of b)
  pub is : i ≡ class_irep n b

abbrev pub WrittenAs : Source → Kind → ℕ → Body → Irep → Type 0
WrittenAs s of_program n b i = ⊥
WrittenAs s of_block n b i = Written s kind.Block n b i
WrittenAs s of_method n b i = Written s kind.Method n b i
WrittenAs s of_class n b i = WrittenClass s n b i

abbrev pub AllWritten : Source → ℕ → List Kind → List Body → List Irep → Type 0
AllWritten s n [] [] [] = Unit {0}
AllWritten s n [] [] (i ∷ is) = ⊥
AllWritten s n [] (b ∷ bs) is = ⊥
AllWritten s n (k ∷ ks) [] is = ⊥
AllWritten s n (k ∷ ks) (b ∷ bs) [] = ⊥
AllWritten s n (k ∷ ks) (b ∷ bs) (i ∷ is) = WrittenAs s k n b i × AllWritten s (n + 1) ks bs is

both_written : (s : Source) (n m : ℕ) (ks ls : List Kind) (bs cs : List Body) (is js : List Irep)
    → AllWritten s n ks bs is → m ≡ n + length is → AllWritten s m ls cs js
    → AllWritten s n (ks ++ ls) (bs ++ cs) (is ++ js)
both_written s n m [] ls [] cs [] js w e v = subst (λ (i : ℕ). AllWritten s i ls cs js) (omega (arith, e)) v
both_written s n m [] ls [] cs (i ∷ is) js w e v = absurd w
both_written s n m [] ls (b ∷ bs) cs is js w e v = absurd w
both_written s n m (k ∷ ks) ls [] cs is js w e v = absurd w
both_written s n m (k ∷ ks) ls (b ∷ bs) cs [] js w e v = absurd w
both_written s n m (k ∷ ks) ls (b ∷ bs) cs (i ∷ is) js w e v =
    (w.0, both_written s (n + 1) m ks ls bs cs is js w.1 (omega (arith, e)) v)

pub nth_written : (s : Source) (n j : ℕ) (ks : List Kind) (bs : List Body) (is : List Irep) (k : Kind) (b : Body)
    (i : Irep)
    → AllWritten s n ks bs is → slice_get ks j ≡ Some k → WrittenAs s k (n + j) (get_or bs j b) (get_or is j i)
nth_written s n j [] bs is k b i w e = absurd (cc e)
nth_written s n j (l ∷ ks) [] is k b i w e = absurd w
nth_written s n j (l ∷ ks) (c ∷ bs) [] k b i w e = absurd w
nth_written s n zero (l ∷ ks) (c ∷ bs) (h ∷ is) k b i w e =
    subst (λ (o : Option Kind). WrittenAs s (unwrap_or o l) (n + 0) c h) e
    (subst (λ (x : ℕ). WrittenAs s l x c h) (omega arith) w.0)
nth_written s n (suc j) (l ∷ ks) (c ∷ bs) (h ∷ is) k b i w e =
    subst (λ (x : ℕ). WrittenAs s k x (get_or bs j b) (get_or is j i)) (omega arith)
    (nth_written s (n + 1) j ks bs is k b i w.1 e)

-- Where so many bodies of a form stand from a number on: the scopes around, each of which has few locals, are no more than
-- the bodies before, and with those in the form these are few.
pub record Ready (src : Source) (a : program.Around) (sc : Scopes) (n k : ℕ) : Type 0 where
  pub knows : Knows sc a
  pub inside : Inside src sc n (n + k)
  pub short : AreShort sc
  pub deep : length sc ≤ n
  pub few : n + k ≤ 65536

-- the first of them, and those behind some
pub ready_first : (src : Source) (a : program.Around) (sc : Scopes) (n k i : ℕ) → i ≤ k → Ready src a sc n k
    → Ready src a sc n i
ready_first src a sc n k i le w = record {
  knows = w.knows;
  inside = inside_first src sc n k i le w.inside;
  short = w.short;
  deep = w.deep;
  few = omega (arith, w.few, le);
}

pub ready_past : (src : Source) (a : program.Around) (sc : Scopes) (n k i r : ℕ) → i + r ≤ k → Closed src n (n + i)
    → Ready src a sc n k → Ready src a sc (n + i) r
ready_past src a sc n k i r le closed w = record {
  knows = w.knows;
  inside = inside_then src sc n k i r le closed w.inside;
  short = w.short;
  deep = omega (arith, w.deep);
  few = omega (arith, w.few, le);
}

pub ready_in_loop : (src : Source) (a : program.Around) (sc : Scopes) (n k : ℕ) → Ready src a sc n k
    → Ready src (within_loop a) sc n k
ready_in_loop src a sc n k w = record {
  knows = w.knows;
  inside = w.inside;
  short = w.short;
  deep = w.deep;
  few = w.few;
}

pub ready_from : (src : Source) (a : program.Around) (sc : Scopes) (n m k : ℕ) → n ≡ m → Ready src a sc n k
    → Ready src a sc m k
ready_from src a sc n m k e w = subst (λ (i : ℕ). Ready src a sc i k) e w

-- The number of the first body behind a piece, and behind a line.

pub next_body : (s : Spot) (p : Piece) (n i : ℕ) → s.body ≡ n → length p.bodies ≡ i → (past s p).body ≡ n + i
unfolding past
next_body s p n i e x = omega (arith, e, x)

pub line_body : (s : Spot) (l : Line) (n : ℕ) → s.body ≡ n → (past s (puts l)).body ≡ n
unfolding past puts
line_body s l n e = omega (arith, e)

pub behind_body : (s : Spot) (n : ℕ) → s.body ≡ n → (behind s).body ≡ n
unfolding behind
behind_body s n e = e

-- a list with nothing in it
pub none_left : {A : Type 0} (xs : List A) → length xs ≡ 0 → xs ≡ []
none_left [] e = refl
none_left (x ∷ xs) e = absurd (cc e)

-- The bodies that the pieces of a form write.
module _ (src : Source) where
  abbrev pub Writes : ℕ → List Kind → List Body → Piece → Type 0
  Writes n ks bs p = AllWritten src n ks bs p.bodies

  -- so it is of a code, wherever it stands
  abbrev pub WritesBy : Context → ℕ → List Kind → List Body → Code → Type 0
  WritesBy c n ks bs k = (s : Spot) (r : ℕ) → s.body ≡ n → Writes n ks bs (k c s r)

  pub written_as : (n : ℕ) (ks ls : List Kind) (bs cs : List Body) (p : Piece) → ks ≡ ls → bs ≡ cs → Writes n ks bs p
      → Writes n ls cs p
  written_as n ks ls bs cs p d e w =
      subst (λ (xs : List Kind). AllWritten src n xs cs p.bodies) d
      (subst (λ (xs : List Body). AllWritten src n ks xs p.bodies) e w)

  pub none_by : (n : ℕ) (l : Line) → Writes n [] [] (puts l)
  unfolding puts
  none_by n l = tt

  pub none_in_nothing : (n : ℕ) → Writes n [] [] nothing
  unfolding nothing
  none_in_nothing n = tt

  pub written_both : (n i : ℕ) (ks ls : List Kind) (bs cs : List Body) (p q : Piece) → Writes n ks bs p
      → length p.bodies ≡ i
      → Writes (n + i) ls cs q → Writes n (ks ++ ls) (bs ++ cs) (p ⊕ q)
  unfolding both
  written_both n i ks ls bs cs p q v x w =
      both_written src n (n + i) ks ls bs cs p.bodies q.bodies v (omega (arith, x)) w

  pub written_ends : (n : ℕ) (ks : List Kind) (bs : List Body) (p : Piece) (l : Line) → Writes n ks bs p
      → Writes n ks bs (p ⊕ puts l)
  unfolding both puts
  written_ends n ks bs p l w =
      subst (λ (is : List Irep). AllWritten src n ks bs is) (sym (append-nil p.bodies)) w

  pub written_begins : (n : ℕ) (ks : List Kind) (bs : List Body) (l : Line) (p : Piece) → Writes n ks bs p
      → Writes n ks bs (puts l ⊕ p)
  unfolding both puts
  written_begins n ks bs l p w = w

  -- two pieces, a line and what is made behind it
  pub opener_written : (n i j : ℕ) (ks ls ms : List Kind) (bs cs ds : List Body) (p q : Piece) (l : Line) (m : Piece)
      → Writes n ks bs p → length p.bodies ≡ i → Writes (n + i) ls cs q → length (p ⊕ q ⊕ puts l).bodies ≡ i + j
      → Writes (n + (i + j)) ms ds m → Writes n (ks ++ (ls ++ ms)) (bs ++ (cs ++ ds)) ((p ⊕ q ⊕ puts l) ⊕ m)
  opener_written n i j ks ls ms bs cs ds p q l m first long second all third =
      written_as n ((ks ++ ls) ++ ms) (ks ++ (ls ++ ms)) ((bs ++ cs) ++ ds) (bs ++ (cs ++ ds)) ((p ⊕ q ⊕ puts l) ⊕ m)
      (append_assoc ks ls ms) (append_assoc bs cs ds)
      (written_both n (i + j) (ks ++ ls) ms (bs ++ cs) ds (p ⊕ q ⊕ puts l) m
      (written_both n i ks ls bs cs p (q ⊕ puts l) first long (written_ends (n + i) ls cs q l second)) all third)

  pub over_written : (n : ℕ) (ks : List Kind) (bs : List Body) (h : Held) (s : Spot) (next : Spot → Piece)
      → ((u : Spot) → u.body ≡ n → Writes n ks bs (next u)) → s.body ≡ n → Writes n ks bs (code.over h s next)
  over_written n ks bs h s next f e =
      written_begins n ks bs (line_by h (past (behind s) (next (behind s))).line) (next (behind s))
      (f (behind s) (behind_body s n e))

  pub passed_written : (c : Context) (n : ℕ) (ks : List Kind) (bs : List Body) (g : Passing) (each gathered : Code)
      → WritesBy c n ks bs each → WritesBy c n ks bs gathered → WritesBy c n ks bs (passed_by g each gathered)
  passed_written c n ks bs (passed.InRegisters i) each gathered e f s r at = e s (r + 1) at
  passed_written c n ks bs (passed.InArrayOf i) each gathered e f s r at =
      written_ends n ks bs (each c s (r + 1)) (line.Does (op.Array (r + 1) i)) (e s (r + 1) at)
  passed_written c n ks bs passed.InArray each gathered e f s r at =
      let p = does (op.Array (r + 1) 0) in
      written_begins n ks bs (line.Does (op.Array (r + 1) 0)) (gathered c (past s p) (r + 1))
      (f (past s p) (r + 1) (line_body s (line.Does (op.Array (r + 1) 0)) n at))

  -- the parts of a call
  pub record CallWritten (c : Context) (n : ℕ) (ks ls ms : List Kind) (bs cs ds : List Body)
      (receiver each arguments block : Code) : Type 0 where
    pub i : ℕ
    pub k : ℕ
    pub first : HaveBodies i receiver
    pub items : HaveBodies k each
    pub passes : HaveBodies k arguments
    pub receiver_written : WritesBy c n ks bs receiver
    pub items_written : WritesBy c (n + i) ls cs each
    pub passes_written : WritesBy c (n + i) ls cs arguments
    pub block_written : WritesBy c (n + i + k) ms ds block

  pub called_written : (c : Context) (n : ℕ) (ks ls ms : List Kind) (bs cs ds : List Body)
      (receiver each arguments block : Code) (o : Option Operation) (w : ℕ) (q : Operation)
      → CallWritten c n ks ls ms bs cs ds receiver each arguments block
      → (is_some o ≡ true → (ms ≡ []) × (ds ≡ []))
      → WritesBy c n (ks ++ (ls ++ ms)) (bs ++ (cs ++ ds)) (called_by o receiver each arguments block w q)
  called_written c n ks ls ms bs cs ds receiver each arguments block (Some o) w q x none s r at =
      let p = receiver c s r in
      let t = each c (past s p) (r + 1) in
      let no = none refl in
      let at_items = next_body s p n x.i at (x.first c s r).long in
      written_as n (ks ++ ls) (ks ++ (ls ++ ms)) (bs ++ cs) (bs ++ (cs ++ ds)) (p ⊕ t ⊕ does o)
      (ap (λ (zs : List Kind). ks ++ zs) (sym (append-nil ls) ∙ ap (λ (zs : List Kind). ls ++ zs) (sym no.0)))
      (ap (λ (zs : List Body). bs ++ zs) (sym (append-nil cs) ∙ ap (λ (zs : List Body). cs ++ zs) (sym no.1)))
      (written_both n x.i ks ls bs cs p (t ⊕ does o) (x.receiver_written s r at) (x.first c s r).long
      (written_ends (n + x.i) ls cs t (line.Does o) (x.items_written (past s p) (r + 1) at_items)))
  called_written c n ks ls ms bs cs ds receiver each arguments block None w q x none s r at =
      let p = receiver c s r in
      let t = arguments c (past s p) r in
      let g = p ⊕ t in
      let u = block c (past s g) (r + 1 + w) in
      let at_items = next_body s p n x.i at (x.first c s r).long in
      let so_far = bodies_both x.i x.k p t (x.first c s r) (x.passes c (past s p) r) in
      let at_block = next_body s g n (x.i + x.k) at so_far.long in
      written_as n ((ks ++ ls) ++ ms) (ks ++ (ls ++ ms)) ((bs ++ cs) ++ ds) (bs ++ (cs ++ ds)) (g ⊕ u ⊕ does q)
      (append_assoc ks ls ms) (append_assoc bs cs ds)
      (written_both n (x.i + x.k) (ks ++ ls) ms (bs ++ cs) ds g (u ⊕ does q)
      (written_both n x.i ks ls bs cs p t (x.receiver_written s r at) (x.first c s r).long
      (x.passes_written (past s p) r at_items)) so_far.long
      (subst (λ (j : ℕ). Writes j ms ds (u ⊕ does q)) (omega arith)
      (written_ends (n + x.i + x.k) ms ds u (line.Does q)
      (x.block_written (past s g) (r + 1 + w) (omega (arith, at_block))))))

  -- a piece without bodies
  pub none_written : (n : ℕ) (p : Piece) → HasBodies 0 p → Writes n [] [] p
  none_written n p x =
      subst (λ (is : List Irep). AllWritten src n [] [] is) (sym (none_left p.bodies x.long)) tt

  pub break_written : (n : ℕ) (ks : List Kind) (bs : List Body) (p : Piece) (o : Option Loop) (r : ℕ) → Writes n ks bs p
      → Writes n ks bs (p ⊕ break_by o r)
  break_written n ks bs p None r w = written_ends n ks bs p (line.Does (op.Break r)) w
  break_written n ks bs p (Some l) r w =
      let q = does (op.Move l.value r) in
      written_as n (ks ++ []) ks (bs ++ []) bs (p ⊕ q ⊕ leave l.out) (append-nil ks) (append-nil bs)
      (written_both n (length p.bodies) ks [] bs [] p (q ⊕ leave l.out) w refl
      (written_ends (n + length p.bodies) [] [] q (line.Leave l.out)
      (none_by (n + length p.bodies) (line.Does (op.Move l.value r)))))

  pub next_written : (n : ℕ) (ks : List Kind) (bs : List Body) (p : Piece) (o : Option Loop) (r : ℕ) → Writes n ks bs p
      → Writes n ks bs (p ⊕ next_by o r)
  next_written n ks bs p None r w = written_ends n ks bs p (line.Does (op.Return r)) w
  next_written n ks bs p (Some l) r w = written_ends n ks bs p (line.Leave l.round) w

  -- a loop with its test first
  pub test_written : (c : Context) (n i : ℕ) (ks ls : List Kind) (bs cs : List Body) (t b : Code) → HaveBodies i t
      → ((l : Loop) → WritesBy (in_loop c l) n ks bs t) → ((l : Loop) → WritesBy (in_loop c l) (n + i) ls cs b)
      → WritesBy c n (ks ++ ls) (bs ++ cs) (loop false t b)
  test_written c n i ks ls bs cs t b x e f s r at =
      let start = behind (behind s) in
      let l : Loop = record { value = r; out = (behind s).line; round = start.line } in
      let inside = in_loop c l in
      let p = t inside start r in
      let next : Spot → Piece = λ v. b inside v r ⊕ jump start.line in
      let rest = code.over (held.JumpNot r) (past start p) next in
      let whole = (p ⊕ rest) ⊕ does (op.LoadNil r) in
      let at_test = behind_body (behind s) n (behind_body s n at) in
      let at_body = next_body start p n i at_test (x inside start r).long in
      let ms = ks ++ ls in
      let ds = bs ++ cs in
      written_begins n ms ds (line.Jump start.line) (puts (line.Jump (past start whole).line) ⊕ whole)
      (written_begins n ms ds (line.Jump (past start whole).line) whole
      (written_ends n ms ds (p ⊕ rest) (line.Does (op.LoadNil r))
      (written_both n i ks ls bs cs p rest (e l start r at_test) (x inside start r).long
      (over_written (n + i) ls cs (held.JumpNot r) (past start p) next
      (λ v h. written_ends (n + i) ls cs (b inside v r) (line.Jump start.line) (f l v r h)) at_body))))

  -- and with its body first, in whose test no body stands
  pub body_written : (c : Context) (n : ℕ) (ls : List Kind) (cs : List Body) (t b : Code) → HaveBodies 0 t
      → ((l : Loop) → WritesBy (in_loop c l) n ls cs b) → WritesBy c n ls cs (loop true t b)
  body_written c n ls cs t b x f s r at =
      let round = behind (behind s) in
      let l : Loop = record { value = r; out = (behind s).line; round = round.line } in
      let inside = in_loop c l in
      let next : Spot → Piece = λ v. b inside v r in
      let q = code.over held.Jump round next in
      let p = t inside (past round q) r in
      let again = jump_if r (behind round).line in
      let whole = (q ⊕ p ⊕ again) ⊕ does (op.LoadNil r) in
      let at_body = behind_body (behind s) n (behind_body s n at) in
      let last = n + length q.bodies in
      written_begins n ls cs (line.Jump (behind round).line) (puts (line.Jump (past round whole).line) ⊕ whole)
      (written_begins n ls cs (line.Jump (past round whole).line) whole
      (written_ends n ls cs (q ⊕ p ⊕ again) (line.Does (op.LoadNil r))
      (written_as n (ls ++ []) ls (cs ++ []) cs (q ⊕ p ⊕ again) (append-nil ls) (append-nil cs)
      (written_both n (length q.bodies) ls [] cs [] q (p ⊕ again)
      (over_written n ls cs held.Jump round next (λ v h. f l v r h) at_body) refl
      (written_ends last [] [] p (line.JumpIf r (behind round).line)
      (none_written last p (x inside (past round q) r)))))))

  -- forms in turn write what each of them writes
  pub turn_written : (n : ℕ) (ks : List Kind) (bs : List Body) (es : Forms) (c : Context) (s : Spot) (r : ℕ)
      → Writes n ks bs (others_in_turn c s r es) → Writes n ks bs (in_turn c s r es)
  unfolding puts nothing
  turn_written n ks bs form.none c s r w = w
  turn_written n ks bs (form.more e es) c s r w = w

  -- an element, which an instruction takes, and those behind it
  pub element_written : (n : ℕ) (o : Operation) (e : CoreForm) (is' : Items) (c : Context) (s : Spot) (r : ℕ)
      → length (gen c s (r + 1) e ⊕ does o).bodies ≡ span e
      → Writes n (kinds e) (over in_order e) (gen c s (r + 1) e)
      → Writes (n + span e) (kinds_items is') (over_items in_order is')
      (gather c (past s (gen c s (r + 1) e ⊕ does o)) r is')
      → Writes n (kinds e ++ kinds_items is') (over in_order e ++ over_items in_order is')
      ((gen c s (r + 1) e ⊕ does o) ⊕ gather c (past s (gen c s (r + 1) e ⊕ does o)) r is')
  element_written n o e is' c s r long first rest =
      let p = gen c s (r + 1) e ⊕ does o in
      written_both n (span e) (kinds e) (kinds_items is') (over in_order e) (over_items in_order is') p
      (gather c (past s p) r is')
      (written_ends n (kinds e) (over in_order e) (gen c s (r + 1) e) (line.Does o) first) long rest
