-- Jumps out of branches, clauses and tests, which land where these end.
use Rattle.std.proofs.Common.{◌≡◌, ℕ, ◌+◌, refl, ap, sym, ◌∙◌, subst}
use Rattle.rite_code.specs.declared.operation.Operation.TheVariants as op
use Rattle.ir_core.specs.CoreForm.{CoreForm, Maybe, Forms, none, more, Branches, no_branches, branch, Clauses, no_clauses, clause}
use Rattle.gen_parts.specs.declared.line.Line.TheVariants as line
use Rattle.gen_parts.specs.declared.emitter.Spot.{Spot}
use Rattle.gen_parts.specs.Pieces.{Piece, past, behind, both, puts, does, jump, jump_if, jump_not}
use Rattle.gen_parts.specs.Emission.{Emission, with_piece, here, patched, all_patched}
use Rattle.gen_parts.proofs.Laws.{both-both, nothing-both, with-both, past-both, past-puts, past-nothing, here-with, landed, land_one}
use Rattle.gen_forms.specs.Gen.{Context, gen, choose, handle, test_classes, test_others}
use Rattle.gen_forms.specs.Open.{branch_out, branch_body, branch_part, branch_to, branches_to, branch_outs, test_one, tests_to, test_outs, clause_out, clause_body, clause_part, clause_to, clauses_to, clause_outs, taken}

-- Branches.

abbrev branches_end : Context → Spot → ℕ → Branches → Spot
branches_end c s r no_branches = s
branches_end c s r (branch t b bs) = branches_end c (behind (branch_out c s r t b)) r bs

pub past-branch : (to : ℕ) (c : Context) (s : Spot) (r : ℕ) (t b : CoreForm)
    → past s (branch_to to c s r t b) ≡ behind (branch_out c s r t b)
past-branch to c s r t b = simp (past-both, past-puts)

past-branches : (to : ℕ) (c : Context) (s : Spot) (r : ℕ) (bs : Branches)
    → past s (branches_to to c s r bs) ≡ branches_end c s r bs
past-branches to c s r no_branches = past-nothing s
past-branches to c s r (branch t b bs) =
    let next = behind (branch_out c s r t b) in
    past-both s (branch_to to c s r t b) (branches_to to c next r bs)
    ∙ (ap (λ (k : Spot). past k (branches_to to c next r bs)) (past-branch to c s r t b)
    ∙ past-branches to c next r bs)

pub branches-landed : (c : Context) (r : ℕ) (bs : Branches) (e : Emission) (q : Piece) (to : ℕ)
    → all_patched (with_piece (with_piece e (branches_to 0 c (here e) r bs)) q) (branch_outs c (here e) r bs)
    (line.Jump to)
    ≡ with_piece (with_piece e (branches_to to c (here e) r bs)) q
branches-landed c r no_branches e q to = refl
branches-landed c r (branch t b bs) e q to =
    let out = branch_out c (here e) r t b in
    let part = branch_part c (here e) r t b in
    let after = with_piece e (both part (jump to)) in
    let ends : past (here e) part ≡ out = simp (past-both, past-puts) in
    let at : out.line ≡ (past (here e) part).line = ap (λ (k : Spot). k.line) (sym ends) in
    let next : here after ≡ behind out = here-with e (both part (jump to)) ∙ past-branch to c (here e) r t b in
    ap (λ (f : Emission). all_patched f (branch_outs c (behind out) r bs) (line.Jump to))
    (land_one e part (branches_to 0 c (behind out) r bs) q (line.Jump 0) (line.Jump to) out.line at)
    ∙ (subst (λ (k : Spot). all_patched (with_piece (with_piece after (branches_to 0 c k r bs)) q)
    (branch_outs c k r bs) (line.Jump to) ≡ with_piece (with_piece after (branches_to to c k r bs)) q) next
    (branches-landed c r bs after q to)
    ∙ ap (λ (f : Emission). with_piece f q) (with-both e (both part (jump to)) (branches_to to c (behind out) r bs)))

chosen : (c : Context) (s : Spot) (r : ℕ) (bs : Branches) (o : CoreForm) (to : ℕ)
    → to ≡ (past (branches_end c s r bs) (gen c (branches_end c s r bs) r o)).line
    → both (branches_to to c s r bs) (gen c (branches_end c s r bs) r o) ≡ choose c s r bs (λ d u n. gen d u n o)
chosen c s r no_branches o to h = nothing-both (gen c s r o)
chosen c s r (branch t b bs) o to h =
    let next = behind (branch_out c s r t b) in
    let last = branches_end c next r bs in
    let others = choose c next r bs (λ d u n. gen d u n o) in
    let test = gen c s r t in
    let body = gen c (branch_body c s r t) r b in
    let rest : both (branches_to to c next r bs) (gen c last r o) ≡ others = chosen c next r bs o to h in
    let at : to ≡ (past next others).line =
    h ∙ ap (λ (k : Spot). k.line) (ap (λ (k : Spot). past k (gen c last r o)) (sym (past-branches to c next r bs))
    ∙ (sym (past-both next (branches_to to c next r bs) (gen c last r o)) ∙ ap (past next) rest)) in
    let flat : both (both (branch_to to c s r t b) (branches_to to c next r bs)) (gen c last r o)
    ≡ both test (both (jump_not r next.line) (both body
    (both (jump to) (both (branches_to to c next r bs) (gen c last r o)))))
    = simp both-both in
    flat ∙ (ap (λ (p : Piece). both test (both (jump_not r next.line) (both body (both (jump to) p)))) rest
    ∙ ap (λ (n : ℕ). both test (both (jump_not r next.line) (both body (both (jump n) others)))) at)

-- the branches and the last form, when the jumps out of the branches land
pub choosing : (c : Context) (r : ℕ) (bs : Branches) (o : CoreForm) (e : Emission)
    → all_patched (with_piece (with_piece e (branches_to 0 c (here e) r bs))
    (gen c (past (here e) (branches_to 0 c (here e) r bs)) r o)) (branch_outs c (here e) r bs)
    (line.Jump (past (past (here e) (branches_to 0 c (here e) r bs))
    (gen c (past (here e) (branches_to 0 c (here e) r bs)) r o)).line)
    ≡ with_piece e (choose c (here e) r bs (λ d u n. gen d u n o))
choosing c r bs o e =
    subst (λ (k : Spot). all_patched (with_piece (with_piece e (branches_to 0 c (here e) r bs)) (gen c k r o))
    (branch_outs c (here e) r bs) (line.Jump (past k (gen c k r o)).line)
    ≡ with_piece e (choose c (here e) r bs (λ d u n. gen d u n o)))
    (sym (past-branches 0 c (here e) r bs))
    (let last = branches_end c (here e) r bs in
    let to = (past last (gen c last r o)).line in
    branches-landed c r bs e (gen c last r o) to
    ∙ (with-both e (branches_to to c (here e) r bs) (gen c last r o)
    ∙ ap (with_piece e) (chosen c (here e) r bs o to refl)))

-- Clauses.

abbrev clauses_end : Context → Spot → ℕ → Clauses → Spot
clauses_end c s r no_clauses = s
clauses_end c s r (clause es t d cs) = clauses_end c (behind (clause_out c s r es t d)) r cs

pub past-clause : (to : ℕ) (c : Context) (s : Spot) (r : ℕ) (es : Forms) (t : Maybe) (d : CoreForm)
    → past s (clause_to to c s r es t d) ≡ behind (clause_out c s r es t d)
past-clause to c s r es t d = simp (past-both, past-puts)

past-clauses : (to : ℕ) (c : Context) (s : Spot) (r : ℕ) (cs : Clauses)
    → past s (clauses_to to c s r cs) ≡ clauses_end c s r cs
past-clauses to c s r no_clauses = past-nothing s
past-clauses to c s r (clause es t d cs) =
    let next = behind (clause_out c s r es t d) in
    past-both s (clause_to to c s r es t d) (clauses_to to c next r cs)
    ∙ (ap (λ (k : Spot). past k (clauses_to to c next r cs)) (past-clause to c s r es t d)
    ∙ past-clauses to c next r cs)

clauses-landed : (c : Context) (r : ℕ) (cs : Clauses) (e : Emission) (q : Piece) (to : ℕ)
    → all_patched (with_piece (with_piece e (clauses_to 0 c (here e) r cs)) q) (clause_outs c (here e) r cs)
    (line.Jump to)
    ≡ with_piece (with_piece e (clauses_to to c (here e) r cs)) q
clauses-landed c r no_clauses e q to = refl
clauses-landed c r (clause es t d cs) e q to =
    let out = clause_out c (here e) r es t d in
    let part = clause_part c (here e) r es t d in
    let after = with_piece e (both part (jump to)) in
    let ends : past (here e) part ≡ out = simp (past-both, past-puts) in
    let at : out.line ≡ (past (here e) part).line = ap (λ (k : Spot). k.line) (sym ends) in
    let next : here after ≡ behind out = here-with e (both part (jump to)) ∙ past-clause to c (here e) r es t d in
    ap (λ (f : Emission). all_patched f (clause_outs c (behind out) r cs) (line.Jump to))
    (land_one e part (clauses_to 0 c (behind out) r cs) q (line.Jump 0) (line.Jump to) out.line at)
    ∙ (subst (λ (k : Spot). all_patched (with_piece (with_piece after (clauses_to 0 c k r cs)) q)
    (clause_outs c k r cs) (line.Jump to) ≡ with_piece (with_piece after (clauses_to to c k r cs)) q) next
    (clauses-landed c r cs after q to)
    ∙ ap (λ (f : Emission). with_piece f q) (with-both e (both part (jump to)) (clauses_to to c (behind out) r cs)))

handled : (c : Context) (s : Spot) (r : ℕ) (cs : Clauses) (to : ℕ)
    → to ≡ (behind (clauses_end c s r cs)).line
    → both (clauses_to to c s r cs) (does (op.RaiseIf (r + 1))) ≡ handle c s r cs
handled c s r no_clauses to h = nothing-both (does (op.RaiseIf (r + 1)))
handled c s r (clause es t d cs) to h =
    let next = behind (clause_out c s r es t d) in
    let others = handle c next r cs in
    let tests = test_classes c s r es in
    let body = clause_body c (taken c s r es) r t d in
    let rest : both (clauses_to to c next r cs) (does (op.RaiseIf (r + 1))) ≡ others = handled c next r cs to h in
    let last : past next others ≡ behind (clauses_end c next r cs) =
    ap (past next) (sym rest) ∙ (past-both next (clauses_to to c next r cs) (does (op.RaiseIf (r + 1)))
    ∙ (past-puts (past next (clauses_to to c next r cs)) (line.Does (op.RaiseIf (r + 1)))
    ∙ ap behind (past-clauses to c next r cs))) in
    let at : to ≡ (past next others).line = h ∙ ap (λ (k : Spot). k.line) (sym last) in
    let flat : both (both (clause_to to c s r es t d) (clauses_to to c next r cs)) (does (op.RaiseIf (r + 1)))
    ≡ both tests (both (jump_not (r + 2) next.line) (both body (both (jump to)
    (both (clauses_to to c next r cs) (does (op.RaiseIf (r + 1)))))))
    = simp both-both in
    flat ∙ (ap (λ (p : Piece). both tests (both (jump_not (r + 2) next.line) (both body (both (jump to) p)))) rest
    ∙ ap (λ (n : ℕ). both tests (both (jump_not (r + 2) next.line) (both body (both (jump n) others)))) at)

-- the clauses, and that the exception goes on where none takes it, when the jumps out of the clauses land
pub handling : (c : Context) (r : ℕ) (cs : Clauses) (e : Emission)
    → all_patched (with_piece (with_piece e (clauses_to 0 c (here e) r cs)) (does (op.RaiseIf (r + 1))))
    (clause_outs c (here e) r cs) (line.Jump (behind (past (here e) (clauses_to 0 c (here e) r cs))).line)
    ≡ with_piece e (handle c (here e) r cs)
handling c r cs e =
    subst (λ (k : Spot). all_patched (with_piece (with_piece e (clauses_to 0 c (here e) r cs))
    (does (op.RaiseIf (r + 1))))
    (clause_outs c (here e) r cs) (line.Jump (behind k).line) ≡ with_piece e (handle c (here e) r cs))
    (sym (past-clauses 0 c (here e) r cs))
    (let to = (behind (clauses_end c (here e) r cs)).line in
    clauses-landed c r cs e (does (op.RaiseIf (r + 1))) to
    ∙ (with-both e (clauses_to to c (here e) r cs) (does (op.RaiseIf (r + 1)))
    ∙ ap (with_piece e) (handled c (here e) r cs to refl)))

-- Tests of classes.

abbrev tests_end : Context → Spot → ℕ → Forms → Spot
tests_end c s r none = s
tests_end c s r (more e es) = tests_end c (past (behind s) (test_one c (behind s) r e)) r es

past-tests : (to : ℕ) (c : Context) (s : Spot) (r : ℕ) (es : Forms)
    → past s (tests_to to c s r es) ≡ tests_end c s r es
past-tests to c s r none = past-nothing s
past-tests to c s r (more e es) =
    let next = past (behind s) (test_one c (behind s) r e) in
    past-both s (jump_if (r + 2) to) (both (test_one c (behind s) r e) (tests_to to c next r es))
    ∙ (ap (λ (k : Spot). past k (both (test_one c (behind s) r e) (tests_to to c next r es)))
    (past-puts s (line.JumpIf (r + 2) to))
    ∙ (past-both (behind s) (test_one c (behind s) r e) (tests_to to c next r es) ∙ past-tests to c next r es))

tests-landed : (c : Context) (r : ℕ) (es : Forms) (e : Emission) (to : ℕ)
    → all_patched (with_piece e (tests_to 0 c (here e) r es)) (test_outs c (here e) r es) (line.JumpIf (r + 2) to)
    ≡ with_piece e (tests_to to c (here e) r es)
tests-landed c r none e to = refl
tests-landed c r (more f fs) e to =
    let s = here e in
    let test = test_one c (behind s) r f in
    let next = past (behind s) test in
    let after = with_piece e (both (jump_if (r + 2) to) test) in
    let before : with_piece e (both (jump_if (r + 2) 0) (both test (tests_to 0 c next r fs)))
    ≡ with_piece (with_piece e (puts (line.JumpIf (r + 2) 0))) (both test (tests_to 0 c next r fs)) =
    sym (with-both e (jump_if (r + 2) 0) (both test (tests_to 0 c next r fs))) in
    let back : with_piece (with_piece e (puts (line.JumpIf (r + 2) to))) (both test (tests_to 0 c next r fs))
    ≡ with_piece after (tests_to 0 c next r fs) = simp (with-both, both-both) in
    let there : here after ≡ next = simp (here-with, past-both, past-puts) in
    let last : with_piece after (tests_to to c next r fs)
    ≡ with_piece e (both (jump_if (r + 2) to) (both test (tests_to to c next r fs))) = simp (with-both, both-both) in
    ap (λ (k : Emission). all_patched (patched k s.line (line.JumpIf (r + 2) to)) (test_outs c next r fs)
    (line.JumpIf (r + 2) to)) before
    ∙ (ap (λ (k : Emission). all_patched k (test_outs c next r fs) (line.JumpIf (r + 2) to))
    (landed e (line.JumpIf (r + 2) 0) (line.JumpIf (r + 2) to) (both test (tests_to 0 c next r fs)) ∙ back)
    ∙ (subst (λ (k : Spot). all_patched (with_piece after (tests_to 0 c k r fs)) (test_outs c k r fs)
    (line.JumpIf (r + 2) to) ≡ with_piece after (tests_to to c k r fs)) there (tests-landed c r fs after to) ∙ last))

tested : (c : Context) (s : Spot) (r : ℕ) (fs : Forms) (to : ℕ) → to ≡ (tests_end c s r fs).line
    → tests_to to c s r fs ≡ test_others c s r fs
tested c s r none to h = refl
tested c s r (more g gs) to h =
    let test = test_one c (behind s) r g in
    let next = past (behind s) test in
    let rest : tests_to to c next r gs ≡ test_others c next r gs = tested c next r gs to h in
    let last : past (behind s) (both test (test_others c next r gs)) ≡ tests_end c next r gs =
    ap (λ (p : Piece). past (behind s) (both test p)) (sym rest)
    ∙ (past-both (behind s) test (tests_to to c next r gs) ∙ past-tests to c next r gs) in
    let at : to ≡ (past (behind s) (both test (test_others c next r gs))).line =
    h ∙ ap (λ (k : Spot). k.line) (sym last) in
    ap (λ (p : Piece). both (jump_if (r + 2) to) (both test p)) rest
    ∙ ap (λ (n : ℕ). both (jump_if (r + 2) n) (both test (test_others c next r gs))) at

-- the classes of a clause, when the jumps behind those that take the exception land
pub testing : (c : Context) (r : ℕ) (f : CoreForm) (fs : Forms) (e : Emission)
    → all_patched (with_piece (with_piece e (test_one c (here e) r f))
    (tests_to 0 c (past (here e) (test_one c (here e) r f)) r fs))
    (test_outs c (past (here e) (test_one c (here e) r f)) r fs)
    (line.JumpIf (r + 2) (past (past (here e) (test_one c (here e) r f))
    (tests_to 0 c (past (here e) (test_one c (here e) r f)) r fs)).line)
    ≡ with_piece e (test_classes c (here e) r (more f fs))
testing c r f fs e =
    let first = test_one c (here e) r f in
    let s = past (here e) first in
    let to = (tests_end c s r fs).line in
    let landing : all_patched (with_piece (with_piece e first) (tests_to 0 c s r fs)) (test_outs c s r fs)
    (line.JumpIf (r + 2) to) ≡ with_piece (with_piece e first) (tests_to to c s r fs) =
    subst (λ (k : Spot). all_patched (with_piece (with_piece e first) (tests_to 0 c k r fs)) (test_outs c k r fs)
    (line.JumpIf (r + 2) to) ≡ with_piece (with_piece e first) (tests_to to c k r fs)) (here-with e first)
    (tests-landed c r fs (with_piece e first) to) in
    subst (λ (k : Spot). all_patched (with_piece (with_piece e first) (tests_to 0 c s r fs)) (test_outs c s r fs)
    (line.JumpIf (r + 2) k.line) ≡ with_piece e (test_classes c (here e) r (more f fs))) (sym (past-tests 0 c s r fs))
    (landing ∙ (with-both e first (tests_to to c s r fs)
    ∙ ap (λ (p : Piece). with_piece e (both first p)) (tested c s r fs to refl)))

pub ruleset landing_laws = (choosing, handling, testing)
