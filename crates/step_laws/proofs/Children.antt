-- Where the pieces of a form stand: the bodies in them are those of the source from a number on, and the children that
-- they make stand in the table of the body.
use Rattle.std.proofs.Common.{◌≡◌, ◌<◌, ◌≤◌, ℕ, zero, suc, ◌+◌, List, [], ◌∷◌, ◌++◌, length, get_or, arith, refl, sym, ap, ◌∙◌, subst, append_assoc, length-append}
use Rattle.std.specs.Prelude.{slice_get, Some}
use Rattle.rite_code.specs.Code.{Program}
use Rattle.rite_code.specs.declared.code.Irep.{Irep}
use Rattle.rite_code.specs.declared.operation.Operation.{Operation}
use Rattle.ir_core.specs.CoreForm as form
use Rattle.ir_core.specs.CoreForm.{Body, Forms}
use Rattle.ir_core.specs.Program as program
use Rattle.gen_parts.specs.declared.line.Line.{Line}
use Rattle.gen_parts.specs.declared.emitter.Spot.{Spot}
use Rattle.gen_parts.specs.Pieces.{Piece, past, behind, nothing, both, puts, makes, ◌⊕◌}
use Rattle.gen_forms.specs.Gen.{Context, in_turn, others_in_turn}
use Rattle.def_eval.specs.Source.{Source, span, parameters_of}
use Rattle.def_eval.specs.Scopes.{shape_of}
use Rattle.eval_laws.specs.Kinds.{IsKind, of_block}
use Rattle.eval_laws.specs.Standing.{BlockStands}
use Rattle.def_machine.specs.State.{body_at}
use Rattle.def_machine.specs.Turn.{fetch, shape_by}
use Rattle.step_laws.specs.Site.{Site, Room}
use Rattle.step_laws.specs.Covers.{Makes}
use Rattle.step_laws.proofs.Nested.{Closed, Inside, inside_first, inside_then, block_sees}

there_at : (xs : List ℕ) (x : ℕ) (ys : List ℕ) (n : ℕ) → length xs ≡ n → get_or (xs ++ x ∷ ys) n 0 ≡ x
there_at [] x ys zero e = refl
there_at [] x ys (suc n) e = absurd (cc e)
there_at (z ∷ xs) x ys zero e = absurd (cc e)
there_at (z ∷ xs) x ys (suc n) e = there_at xs x ys n (omega (arith, e))

-- the children that a piece makes stand in a table behind those that were made before
pub record Stands (all : List ℕ) (s : Spot) (children : List ℕ) : Type 0 where
  pub before : List ℕ
  pub after : List ℕ
  pub are : all ≡ before ++ (children ++ after)
  pub count : length before ≡ s.child

module _ (all : List ℕ) where
  first_stands : (s : Spot) (xs ys : List ℕ) → Stands all s (xs ++ ys) → Stands all s xs
  first_stands s xs ys t = record {
    before = t.before;
    after = ys ++ t.after;
    are = t.are ∙ ap (λ (zs : List ℕ). t.before ++ zs) (append_assoc xs ys t.after);
    count = t.count;
  }

  then_stands : (s : Spot) (p : Piece) (ys : List ℕ) → Stands all s (p.children ++ ys) → Stands all (past s p) ys
  unfolding past
  then_stands s p ys t = record {
    before = t.before ++ p.children;
    after = t.after;
    are = t.are ∙ ap (λ (zs : List ℕ). t.before ++ zs) (append_assoc p.children ys t.after)
        ∙ sym (append_assoc t.before p.children (ys ++ t.after));
    count = omega (arith, length-append t.before p.children, t.count);
  }

-- the body of each block of the source begins with its parameters
abbrev pub Shapes : Source → Program → Type 0
Shapes s p = (n : ℕ) (f : Body) → slice_get s n ≡ Some f → IsKind s n of_block
    → shape_by (fetch p n 0) ≡ shape_of (parameters_of f)

-- So many bodies of a piece at a spot, from a number on.
pub record Settled (h : Site) (s : Spot) (j n : ℕ) (p : Piece) : Type 0 where
  pub inside : Inside h.source h.context.scopes j (j + n)
  -- where there is one
  pub number : 0 < n → s.body ≡ j
  pub stands : Stands (body_at h.program h.body).children s p.children

module _ (h : Site) where
  -- the first piece of two, and the second one
  pub settled_first : (s : Spot) (j n i : ℕ) (p q : Piece) → i ≤ n → Settled h s j n (p ⊕ q) → Settled h s j i p
  unfolding both
  settled_first s j n i p q le y = record {
    inside = inside_first h.source h.context.scopes j n i le y.inside;
    number = λ lt. y.number (omega (arith, lt, le));
    stands = first_stands (body_at h.program h.body).children s p.children q.children y.stands;
  }

  pub settled_then : (s : Spot) (j n i k : ℕ) (p q : Piece) → length p.bodies ≡ i → Closed h.source j (j + i)
      → i + k ≤ n
      → Settled h s j n (p ⊕ q) → Settled h (past s p) (j + i) k q
  unfolding both past
  settled_then s j n i k p q long closed le y =
      record {
        inside = inside_then h.source h.context.scopes j n i k le closed y.inside;
        number = λ lt. let at = y.number (omega (arith, lt, le)) in omega (arith, at, long);
        stands = then_stands (body_at h.program h.body).children s p q.children y.stands;
      }

  -- fewer of them
  pub settled_less : (s : Spot) (j n i : ℕ) (p : Piece) → i ≤ n → Settled h s j n p → Settled h s j i p
  settled_less s j n i p le y = record {
    inside = inside_first h.source h.context.scopes j n i le y.inside;
    number = λ lt. y.number (omega (arith, lt, le));
    stands = y.stands;
  }

  -- past a line, and behind it
  pub settled_line : (s : Spot) (j n : ℕ) (l : Line) (q : Piece) → Settled h s j n (puts l ⊕ q)
      → Settled h (past s (puts l)) j n q
  unfolding both puts past
  settled_line s j n l q y =
      record {
        inside = y.inside;
        number = λ lt. let at = y.number lt in omega (arith, at);
        stands = then_stands (body_at h.program h.body).children s (puts l) q.children y.stands;
      }

  pub settled_behind : (s : Spot) (j n : ℕ) (l : Line) (q : Piece) → Settled h s j n (puts l ⊕ q)
      → Settled h (behind s) j n q
  unfolding both puts behind
  settled_behind s j n l q y = record {
    inside = y.inside;
    number = y.number;
    stands = record {
      before = y.stands.before;
      after = y.stands.after;
      are = y.stands.are;
      count = y.stands.count;
    };
  }

  -- and with another number
  pub settled_from : (s : Spot) (j i n : ℕ) (p : Piece) → j ≡ i → Settled h s j n p → Settled h s i n p
  settled_from s j i n p e y = subst (λ (z : ℕ). Settled h s z n p) e y

  -- forms in turn
  pub settled_turn : (c : Context) (s : Spot) (r j n : ℕ) (es : Forms) → Settled h s j n (in_turn c s r es)
      → Settled h s j n (others_in_turn c s r es)
  unfolding puts nothing
  settled_turn c s r j n form.none y = record {
    inside = y.inside;
    number = y.number;
    stands = record {
      before = y.stands.before;
      after = y.stands.after;
      are = y.stands.are;
      count = y.stands.count;
    };
  }
  settled_turn c s r j n (form.more e es) y = y

  -- the child that a piece makes
  pub child_there : (s : Spot) (j n : ℕ) (o : Operation) (bodies : List Irep) → 0 < n
      → Settled h s j n (makes o s.body bodies) → get_or (body_at h.program h.body).children s.child 0 ≡ j
  unfolding makes
  child_there s j n o bodies some y =
      ap (λ (xs : List ℕ). get_or xs s.child 0) y.stands.are
      ∙ there_at y.stands.before s.body y.stands.after s.child y.stands.count
      ∙ y.number some

  -- a block literal
  pub block_made : Shapes h.source h.program → (s : Spot) (r j : ℕ) (o : Operation) (bodies : List Irep)
      (p : form.Parameters) (ls : List form.Local) (f : form.CoreForm) → Room h r → (a : program.Around)
      → BlockStands h.source a j (form.body p ls f)
      → Settled h s j (span (form.function (form.body p ls f))) (makes o s.body bodies)
      → Makes h r s j (form.body p ls f)
  block_made shapes s r j o bodies p ls f room a st y = record {
    room = room;
    child = child_there s j (span (form.function (form.body p ls f))) o bodies (omega arith) y;
    shape = shapes j (form.body p ls f) st.0 st.4;
    sees = block_sees h.source h.context.scopes j (j + span (form.function (form.body p ls f))) y.inside (omega arith)
        st.4;
  }
