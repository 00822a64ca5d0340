-- The names of operators' methods are the longest of the table.
use Rattle.std.proofs.Common.{◌≡◌, ℕ, ◌+◌, ◌<◌, ◌≤◌, List, [], ◌∷◌, get_or, arith, refl, Bool, true, false, eqb, ◌||◌, inl, inr, if◌then◌else◌}
use Rattle.std.proofs.lemmas.Bool.{cases_Bool, or_cases, eqb-true}
use Rattle.rb_syntax.specs.declared.token.TokenKind.TheVariants as kinds
use Rattle.lexer_tables.specs.Marks.{operator_name}
use Rattle.lexer_steps.specs.State.{State}
use Rattle.lexer_steps.specs.Names.{name_of, operator_end}
use Rattle.rb_lexer.specs.Code.{other_step}
use Rattle.lexer_laws.specs.Longest.{IsLongest, Stands}
use Rattle.lexer_laws.specs.Place.{after}
use Rattle.lexer_laws.specs.Reads.{IsMethodOperator, value_at, is_newline, bars_after}
use Rattle.lexer_laws.specs.Signs.{IsOperatorName}
use Rattle.lexer_laws.specs.Taking.{place_of, took}
use Rattle.lexer_laws.proofs.Operators.{here}
use Rattle.lexer_laws.proofs.Runs.{longest_once}
use Rattle.lexer_laws.proofs.Steps.{passed}

abbrev pub name_at : List ℕ → ℕ → ℕ
name_at text at = operator_name (get_or text at 0) (get_or text (at + 1) 0) (get_or text (at + 2) 0)

-- ---- no name goes farther

least : (n : ℕ) (t : Bool) (x y : ℕ) → n ≤ x → n ≤ y → n ≤ (if t then x else y)
least n true x y a b = a
least n false x y a b = b

one_known : (n x : ℕ) (text : List ℕ) (at : ℕ) → ((b c : ℕ) → n ≤ operator_name x b c) → Stands text at (x ∷ [])
    → n ≤ name_at text at
one_known n x text at f p = rw (p.1) (f (get_or text (at + 1) 0) (get_or text (at + 2) 0))

two_known : (n x y : ℕ) (text : List ℕ) (at : ℕ) → ((c : ℕ) → n ≤ operator_name x y c) → Stands text at (x ∷ y ∷ [])
    → n ≤ name_at text at
two_known n x y text at f p = rw (p.1, p.2.1) (f (get_or text (at + 2) 0))

three_known : (n x y z : ℕ) (text : List ℕ) (at : ℕ) → n ≤ operator_name x y z → Stands text at (x ∷ y ∷ z ∷ [])
    → n ≤ name_at text at
three_known n x y z text at f p =
    let e : at + 1 + 1 ≡ at + 2 = omega arith in
    let third : get_or text (at + 2) 0 ≡ z = rw (← e) (p.2.2.1) in
    rw (p.1, p.2.1, third) f

pub record Far (text : List ℕ) (at end : ℕ) : Type 0 where
  pub some : at < end
  pub near : end ≤ at + name_at text at

far_from : (text : List ℕ) (at end n : ℕ) → 0 < n → end ≡ at + n → n ≤ name_at text at → Far text at end
far_from text at end n some e h = record { some = omega (arith, some, e); near = omega (arith, e, h) }

far_0 : (b c : ℕ) → 1 ≤ operator_name 43 b c
unfolding operator_name
far_0 b c = least 1 _ 2 1 (omega arith) (omega arith)

far_1 : (b c : ℕ) → 1 ≤ operator_name 45 b c
unfolding operator_name
far_1 b c = least 1 _ 2 1 (omega arith) (omega arith)

far_2 : (b c : ℕ) → 1 ≤ operator_name 42 b c
unfolding operator_name
far_2 b c = least 1 _ 2 1 (omega arith) (omega arith)

far_3 : (b c : ℕ) → 1 ≤ operator_name 47 b c
unfolding operator_name
far_3 b c = omega arith

far_4 : (b c : ℕ) → 1 ≤ operator_name 37 b c
unfolding operator_name
far_4 b c = omega arith

far_5 : (c : ℕ) → 2 ≤ operator_name 42 42 c
unfolding operator_name
far_5 c = omega arith

far_6 : (b c : ℕ) → 1 ≤ operator_name 33 b c
unfolding operator_name
far_6 b c = least 1 _ 2 1 (omega arith) (omega arith)

far_7 : (b c : ℕ) → 1 ≤ operator_name 126 b c
unfolding operator_name
far_7 b c = omega arith

far_8 : (c : ℕ) → 2 ≤ operator_name 43 64 c
unfolding operator_name
far_8 c = omega arith

far_9 : (c : ℕ) → 2 ≤ operator_name 45 64 c
unfolding operator_name
far_9 c = omega arith

far_10 : (c : ℕ) → 2 ≤ operator_name 61 61 c
unfolding operator_name
far_10 c = least 2 _ 3 2 (omega arith) (omega arith)

far_11 : (c : ℕ) → 2 ≤ operator_name 33 61 c
unfolding operator_name
far_11 c = omega arith

far_12 : 3 ≤ operator_name 61 61 61
unfolding operator_name
far_12 = omega arith

far_13 : (b c : ℕ) → 1 ≤ operator_name 60 b c
unfolding operator_name
far_13 b c = least 1 (eqb b 61) (if eqb c 62 then 3 else 2) (if eqb b 60 then 2 else 1)
    (least 1 _ 3 2 (omega arith) (omega arith)) (least 1 _ 2 1 (omega arith) (omega arith))

far_14 : (c : ℕ) → 2 ≤ operator_name 60 61 c
unfolding operator_name
far_14 c = least 2 _ 3 2 (omega arith) (omega arith)

far_15 : (b c : ℕ) → 1 ≤ operator_name 62 b c
unfolding operator_name
far_15 b c = least 1 _ 2 1 (omega arith) (omega arith)

far_16 : (c : ℕ) → 2 ≤ operator_name 62 61 c
unfolding operator_name
far_16 c = omega arith

far_17 : 3 ≤ operator_name 60 61 62
unfolding operator_name
far_17 = omega arith

far_18 : (c : ℕ) → 2 ≤ operator_name 60 60 c
unfolding operator_name
far_18 c = omega arith

far_19 : (c : ℕ) → 2 ≤ operator_name 62 62 c
unfolding operator_name
far_19 c = omega arith

far_20 : (b c : ℕ) → 1 ≤ operator_name 38 b c
unfolding operator_name
far_20 b c = omega arith

far_21 : (b c : ℕ) → 1 ≤ operator_name 124 b c
unfolding operator_name
far_21 b c = omega arith

far_22 : (b c : ℕ) → 1 ≤ operator_name 94 b c
unfolding operator_name
far_22 b c = omega arith

far_23 : (c : ℕ) → 2 ≤ operator_name 91 93 c
unfolding operator_name
far_23 c = least 2 _ 3 2 (omega arith) (omega arith)

far_24 : 3 ≤ operator_name 91 93 61
unfolding operator_name
far_24 = omega arith

pub name_far : (text : List ℕ) (at end : ℕ) → IsOperatorName text at end → Far text at end
name_far text at end (inl p) = far_from text at end 1 (omega arith) p.1 (one_known 1 43 text at far_0 p.0)
name_far text at end (inr (inl p)) = far_from text at end 1 (omega arith) p.1 (one_known 1 45 text at far_1 p.0)
name_far text at end (inr (inr (inl p))) = far_from text at end 1 (omega arith) p.1 (one_known 1 42 text at far_2 p.0)
name_far text at end (inr (inr (inr (inl p)))) = far_from text at end 1 (omega arith) p.1
    (one_known 1 47 text at far_3 p.0)
name_far text at end (inr (inr (inr (inr (inl p))))) =
    far_from text at end 1 (omega arith) p.1 (one_known 1 37 text at far_4 p.0)
name_far text at end (inr (inr (inr (inr (inr (inl p)))))) =
    far_from text at end 2 (omega arith) p.1 (two_known 2 42 42 text at far_5 p.0)
name_far text at end (inr (inr (inr (inr (inr (inr (inl p))))))) =
    far_from text at end 1 (omega arith) p.1 (one_known 1 33 text at far_6 p.0)
name_far text at end (inr (inr (inr (inr (inr (inr (inr (inl p)))))))) =
    far_from text at end 1 (omega arith) p.1 (one_known 1 126 text at far_7 p.0)
name_far text at end (inr (inr (inr (inr (inr (inr (inr (inr (inl p))))))))) =
    far_from text at end 2 (omega arith) p.1 (two_known 2 43 64 text at far_8 p.0)
name_far text at end (inr (inr (inr (inr (inr (inr (inr (inr (inr (inl p)))))))))) =
    far_from text at end 2 (omega arith) p.1 (two_known 2 45 64 text at far_9 p.0)
name_far text at end (inr (inr (inr (inr (inr (inr (inr (inr (inr (inr (inl p))))))))))) =
    far_from text at end 2 (omega arith) p.1 (two_known 2 61 61 text at far_10 p.0)
name_far text at end (inr (inr (inr (inr (inr (inr (inr (inr (inr (inr (inr (inl p)))))))))))) =
    far_from text at end 2 (omega arith) p.1 (two_known 2 33 61 text at far_11 p.0)
name_far text at end (inr (inr (inr (inr (inr (inr (inr (inr (inr (inr (inr (inr (inl p))))))))))))) =
    far_from text at end 3 (omega arith) p.1 (three_known 3 61 61 61 text at far_12 p.0)
name_far text at end (inr (inr (inr (inr (inr (inr (inr (inr (inr (inr (inr (inr (inr (inl p)))))))))))))) =
    far_from text at end 1 (omega arith) p.1 (one_known 1 60 text at far_13 p.0)
name_far text at end (inr (inr (inr (inr (inr (inr (inr (inr (inr (inr (inr (inr (inr (inr (inl p))))))))))))))) =
    far_from text at end 2 (omega arith) p.1 (two_known 2 60 61 text at far_14 p.0)
name_far text at end (inr (inr (inr (inr (inr (inr (inr (inr (inr (inr (inr (inr (inr (inr (inr (inl p)))))))))))))))) =
    far_from text at end 1 (omega arith) p.1 (one_known 1 62 text at far_15 p.0)
name_far text at end (inr (inr (inr (inr (inr (inr (inr
    (inr (inr (inr (inr (inr (inr (inr (inr (inr (inl p))))))))))))))))) =
    far_from text at end 2 (omega arith) p.1 (two_known 2 62 61 text at far_16 p.0)
name_far text at end (inr (inr (inr (inr (inr (inr (inr
    (inr (inr (inr (inr (inr (inr (inr (inr (inr (inr (inl p)))))))))))))))))) =
    far_from text at end 3 (omega arith) p.1 (three_known 3 60 61 62 text at far_17 p.0)
name_far text at end (inr (inr (inr (inr (inr (inr (inr
    (inr (inr (inr (inr (inr (inr (inr (inr (inr (inr (inr (inl p))))))))))))))))))) =
    far_from text at end 2 (omega arith) p.1 (two_known 2 60 60 text at far_18 p.0)
name_far text at end (inr (inr (inr (inr (inr (inr (inr
    (inr (inr (inr (inr (inr (inr (inr (inr (inr (inr (inr (inr (inl p)))))))))))))))))))) =
    far_from text at end 2 (omega arith) p.1 (two_known 2 62 62 text at far_19 p.0)
name_far text at end (inr (inr (inr (inr (inr (inr (inr
    (inr (inr (inr (inr (inr (inr (inr (inr (inr (inr (inr (inr (inr (inl p))))))))))))))))))))) =
    far_from text at end 1 (omega arith) p.1 (one_known 1 38 text at far_20 p.0)
name_far text at end (inr (inr (inr (inr (inr (inr (inr
    (inr (inr (inr (inr (inr (inr (inr (inr (inr (inr (inr (inr (inr (inr (inl p)))))))))))))))))))))) =
    far_from text at end 1 (omega arith) p.1 (one_known 1 124 text at far_21 p.0)
name_far text at end (inr (inr (inr (inr (inr (inr (inr
    (inr (inr (inr (inr (inr (inr (inr (inr (inr (inr (inr (inr (inr (inr (inr (inl p))))))))))))))))))))))) =
    far_from text at end 1 (omega arith) p.1 (one_known 1 94 text at far_22 p.0)
name_far text at end (inr (inr (inr (inr (inr (inr (inr
    (inr (inr (inr (inr (inr (inr (inr (inr (inr (inr (inr (inr (inr (inr (inr (inr (inl p)))))))))))))))))))))))) =
    far_from text at end 2 (omega arith) p.1 (two_known 2 91 93 text at far_23 p.0)
name_far text at end (inr (inr (inr (inr (inr (inr (inr
    (inr (inr (inr (inr (inr (inr (inr (inr (inr (inr (inr (inr (inr (inr (inr (inr (inr (inl p)))))))))))))))))))))))))
    = far_from text at end 3 (omega arith) p.1 (three_known 3 91 93 61 text at far_24 p.0)
name_far text at end (inr (inr (inr (inr (inr (inr (inr
    (inr (inr (inr (inr (inr (inr (inr (inr (inr (inr (inr (inr (inr (inr (inr (inr (inr (inr p)))))))))))))))))))))))))
    = absurd p

-- ---- the name that is read stands

abbrev pub Good : List ℕ → ℕ → ℕ → Type 0
Good text at n = 0 < n → IsOperatorName text at (at + n)

choose : (text : List ℕ) (at : ℕ) (t : Bool) (x y : ℕ) → (t ≡ true → Good text at x) → (t ≡ false → Good text at y)
    → Good text at (if t then x else y)
choose text at true x y a b = a refl
choose text at false x y a b = b refl

nothing : (text : List ℕ) (at : ℕ) → Good text at 0
nothing text at h = absurd (omega (arith, h))

stand_one : (text : List ℕ) (at x : ℕ) → 0 < x → get_or text at 0 ≡ x → Stands text at (x ∷ [])
stand_one text at x some e = (here text at x some e, e, tt)

stand_two : (text : List ℕ) (at x y : ℕ) → 0 < x → 0 < y → get_or text at 0 ≡ x → get_or text (at + 1) 0 ≡ y
    → Stands text at (x ∷ y ∷ [])
stand_two text at x y some more e f = (here text at x some e, e, stand_one text (at + 1) y more f)

stand_three : (text : List ℕ) (at x y z : ℕ) → 0 < x → 0 < y → 0 < z → get_or text at 0 ≡ x → get_or text (at + 1) 0 ≡ y
    → get_or text (at + 2) 0 ≡ z → Stands text at (x ∷ y ∷ z ∷ [])
stand_three text at x y z some more most e f g =
    let two : at + 1 + 1 ≡ at + 2 = omega arith in
    (here text at x some e, e, stand_two text (at + 1) y z more most f (rw two g))

good_0 : (text : List ℕ) (at : ℕ) → (get_or text at 0) ≡ 43 → Good text at 1
good_0 text at e h = inl (stand_one text at 43 (omega arith) e, refl)

good_1 : (text : List ℕ) (at : ℕ) → (get_or text at 0) ≡ 45 → Good text at 1
good_1 text at e h = inr (inl (stand_one text at 45 (omega arith) e, refl))

good_2 : (text : List ℕ) (at : ℕ) → (get_or text at 0) ≡ 42 → Good text at 1
good_2 text at e h = inr (inr (inl (stand_one text at 42 (omega arith) e, refl)))

good_3 : (text : List ℕ) (at : ℕ) → (get_or text at 0) ≡ 47 → Good text at 1
good_3 text at e h = inr (inr (inr (inl (stand_one text at 47 (omega arith) e, refl))))

good_4 : (text : List ℕ) (at : ℕ) → (get_or text at 0) ≡ 37 → Good text at 1
good_4 text at e h = inr (inr (inr (inr (inl (stand_one text at 37 (omega arith) e, refl)))))

good_5 : (text : List ℕ) (at : ℕ) → (get_or text at 0) ≡ 42 → (get_or text (at + 1) 0) ≡ 42 → Good text at 2
good_5 text at e f h = inr (inr (inr (inr (inr (inl (stand_two text at 42 42 (omega arith) (omega arith) e f, refl))))))

good_6 : (text : List ℕ) (at : ℕ) → (get_or text at 0) ≡ 33 → Good text at 1
good_6 text at e h = inr (inr (inr (inr (inr (inr (inl (stand_one text at 33 (omega arith) e, refl)))))))

good_7 : (text : List ℕ) (at : ℕ) → (get_or text at 0) ≡ 126 → Good text at 1
good_7 text at e h = inr (inr (inr (inr (inr (inr (inr (inl (stand_one text at 126 (omega arith) e, refl))))))))

good_8 : (text : List ℕ) (at : ℕ) → (get_or text at 0) ≡ 43 → (get_or text (at + 1) 0) ≡ 64 → Good text at 2
good_8 text at e f h = inr (inr (inr (inr (inr (inr (inr
    (inr (inl (stand_two text at 43 64 (omega arith) (omega arith) e f, refl)))))))))

good_9 : (text : List ℕ) (at : ℕ) → (get_or text at 0) ≡ 45 → (get_or text (at + 1) 0) ≡ 64 → Good text at 2
good_9 text at e f h = inr (inr (inr (inr (inr (inr (inr
    (inr (inr (inl (stand_two text at 45 64 (omega arith) (omega arith) e f, refl))))))))))

good_10 : (text : List ℕ) (at : ℕ) → (get_or text at 0) ≡ 61 → (get_or text (at + 1) 0) ≡ 61 → Good text at 2
good_10 text at e f h = inr (inr (inr (inr (inr (inr (inr
    (inr (inr (inr (inl (stand_two text at 61 61 (omega arith) (omega arith) e f, refl)))))))))))

good_11 : (text : List ℕ) (at : ℕ) → (get_or text at 0) ≡ 33 → (get_or text (at + 1) 0) ≡ 61 → Good text at 2
good_11 text at e f h = inr (inr (inr (inr (inr (inr (inr
    (inr (inr (inr (inr (inl (stand_two text at 33 61 (omega arith) (omega arith) e f, refl))))))))))))

good_12 : (text : List ℕ) (at : ℕ) → (get_or text at 0) ≡ 61 → (get_or text (at + 1) 0) ≡ 61
    → (get_or text (at + 2) 0) ≡ 61 → Good text at 3
good_12 text at e f g h = inr (inr (inr (inr (inr (inr
    (inr (inr (inr (inr (inr (inr (inl (
      stand_three text at 61 61 61 (omega arith) (omega arith) (omega arith) e f g,
      refl,
    )))))))))))))

good_13 : (text : List ℕ) (at : ℕ) → (get_or text at 0) ≡ 60 → Good text at 1
good_13 text at e h = inr (inr (inr (inr (inr (inr (inr
    (inr (inr (inr (inr (inr (inr (inl (stand_one text at 60 (omega arith) e, refl))))))))))))))

good_14 : (text : List ℕ) (at : ℕ) → (get_or text at 0) ≡ 60 → (get_or text (at + 1) 0) ≡ 61 → Good text at 2
good_14 text at e f h = inr (inr (inr (inr (inr (inr (inr
    (inr (inr (inr (inr (inr (inr (inr (inl (
      stand_two text at 60 61 (omega arith) (omega arith) e f,
      refl,
    )))))))))))))))

good_15 : (text : List ℕ) (at : ℕ) → (get_or text at 0) ≡ 62 → Good text at 1
good_15 text at e h = inr (inr (inr (inr (inr (inr (inr
    (inr (inr (inr (inr (inr (inr (inr (inr (inl (stand_one text at 62 (omega arith) e, refl))))))))))))))))

good_16 : (text : List ℕ) (at : ℕ) → (get_or text at 0) ≡ 62 → (get_or text (at + 1) 0) ≡ 61 → Good text at 2
good_16 text at e f h = inr (inr (inr (inr (inr (inr (inr
    (inr (inr (inr (inr (inr (inr (inr (inr (inr (inl (
      stand_two text at 62 61 (omega arith) (omega arith) e f,
      refl,
    )))))))))))))))))

good_17 : (text : List ℕ) (at : ℕ) → (get_or text at 0) ≡ 60 → (get_or text (at + 1) 0) ≡ 61
    → (get_or text (at + 2) 0) ≡ 62 → Good text at 3
good_17 text at e f g h = inr (inr (inr (inr (inr (inr
    (inr (inr (inr (inr (inr (inr (inr (inr (inr (inr (inr
    (inl (stand_three text at 60 61 62 (omega arith) (omega arith) (omega arith) e f g, refl))))))))))))))))))

good_18 : (text : List ℕ) (at : ℕ) → (get_or text at 0) ≡ 60 → (get_or text (at + 1) 0) ≡ 60 → Good text at 2
good_18 text at e f h = inr (inr (inr (inr (inr (inr (inr
    (inr (inr (inr (inr (inr (inr (inr (inr (inr (inr (inr
    (inl (stand_two text at 60 60 (omega arith) (omega arith) e f, refl)))))))))))))))))))

good_19 : (text : List ℕ) (at : ℕ) → (get_or text at 0) ≡ 62 → (get_or text (at + 1) 0) ≡ 62 → Good text at 2
good_19 text at e f h = inr (inr (inr (inr (inr (inr (inr
    (inr (inr (inr (inr (inr (inr (inr (inr (inr (inr (inr
    (inr (inl (stand_two text at 62 62 (omega arith) (omega arith) e f, refl))))))))))))))))))))

good_20 : (text : List ℕ) (at : ℕ) → (get_or text at 0) ≡ 38 → Good text at 1
good_20 text at e h = inr (inr (inr (inr (inr (inr (inr
    (inr (inr (inr (inr (inr (inr (inr (inr (inr (inr (inr
    (inr (inr (inl (stand_one text at 38 (omega arith) e, refl)))))))))))))))))))))

good_21 : (text : List ℕ) (at : ℕ) → (get_or text at 0) ≡ 124 → Good text at 1
good_21 text at e h = inr (inr (inr (inr (inr (inr (inr
    (inr (inr (inr (inr (inr (inr (inr (inr (inr (inr (inr
    (inr (inr (inr (inl (stand_one text at 124 (omega arith) e, refl))))))))))))))))))))))

good_22 : (text : List ℕ) (at : ℕ) → (get_or text at 0) ≡ 94 → Good text at 1
good_22 text at e h = inr (inr (inr (inr (inr (inr (inr
    (inr (inr (inr (inr (inr (inr (inr (inr (inr (inr (inr
    (inr (inr (inr (inr (inl (stand_one text at 94 (omega arith) e, refl)))))))))))))))))))))))

good_23 : (text : List ℕ) (at : ℕ) → (get_or text at 0) ≡ 91 → (get_or text (at + 1) 0) ≡ 93 → Good text at 2
good_23 text at e f h = inr (inr (inr (inr (inr (inr (inr
    (inr (inr (inr (inr (inr (inr (inr (inr (inr (inr (inr
    (inr (inr (inr (inr (inr (inl (stand_two text at 91 93 (omega arith) (omega arith) e f, refl))))))))))))))))))))))))

good_24 : (text : List ℕ) (at : ℕ) → (get_or text at 0) ≡ 91 → (get_or text (at + 1) 0) ≡ 93
    → (get_or text (at + 2) 0) ≡ 61 → Good text at 3
good_24 text at e f g h = inr (inr (inr (inr (inr (inr
    (inr (inr (inr (inr (inr (inr (inr (inr (inr (inr (inr
    (inr (inr (inr (inr (inr (inr (inr (inl (
      stand_three text at 91 93 61 (omega arith) (omega arith) (omega arith) e f
          g,
      refl,
    )))))))))))))))))))))))))

pub name_good : (text : List ℕ) (at : ℕ) → Good text at (name_at text at)
unfolding operator_name
name_good text at = choose text at (eqb (get_or text at 0) 43 || eqb (get_or text at 0) 45) _ _
    (λ t. elim (or_cases (eqb (get_or text at 0) 43) (eqb (get_or text at 0) 45) t) [
      | inl a ↦ choose text at (eqb (get_or text (at + 1) 0) 64) 2 1
          (λ u. good_8 text at (eqb-true (get_or text at 0) 43 a) (eqb-true (get_or text (at + 1) 0) 64 u))
          (λ f. good_0 text at (eqb-true (get_or text at 0) 43 a))
      | inr z ↦ choose text at (eqb (get_or text (at + 1) 0) 64) 2 1
          (λ u. good_9 text at (eqb-true (get_or text at 0) 45 z) (eqb-true (get_or text (at + 1) 0) 64 u))
          (λ f. good_1 text at (eqb-true (get_or text at 0) 45 z))
    ])
    (λ n. choose text at (eqb (get_or text at 0) 42) _ _ (λ t. choose text at (eqb (get_or text (at + 1) 0) 42) 2 1
    (λ u. good_5 text at (eqb-true (get_or text at 0) 42 t) (eqb-true (get_or text (at + 1) 0) 42 u))
    (λ f. good_2 text at (eqb-true (get_or text at 0) 42 t)))
    (λ n. choose text at (eqb (get_or text at 0) 33) _ _ (λ t. choose text at (eqb (get_or text (at + 1) 0) 61) 2 1
    (λ u. good_11 text at (eqb-true (get_or text at 0) 33 t) (eqb-true (get_or text (at + 1) 0) 61 u))
    (λ f. good_6 text at (eqb-true (get_or text at 0) 33 t)))
    (λ n. choose text at (eqb (get_or text at 0) 47 || eqb (get_or text at 0) 37 || eqb (get_or text at 0) 126 || eqb
    (get_or text at 0) 38 || eqb (get_or text at 0) 124 || eqb (get_or text at 0) 94) _ _
    (λ t. elim (or_cases (eqb (get_or text at 0) 47 || eqb (get_or text at 0) 37 || eqb (get_or text at 0) 126
    || eqb (get_or text at 0) 38 || eqb (get_or text at 0) 124) (eqb (get_or text at 0) 94) t) [
      | inl a ↦ elim (or_cases (eqb (get_or text at 0) 47 || eqb (get_or text at 0) 37 || eqb (get_or text at 0) 126
          || eqb (get_or text at 0) 38) (eqb (get_or text at 0) 124) a) [
            | inl a ↦ elim (or_cases (eqb (get_or text at 0) 47 || eqb (get_or text at 0) 37 || eqb (get_or text at 0)
                126)
                (eqb (get_or text at 0) 38) a) [
                  | inl a ↦ elim (or_cases (eqb (get_or text at 0) 47 || eqb (get_or text at 0) 37)
                      (eqb (get_or text at 0) 126) a) [
                        | inl a ↦ elim (or_cases (eqb (get_or text at 0) 47) (eqb (get_or text at 0) 37)
                            a) [
                              | inl a ↦ good_3 text at (eqb-true (get_or text at 0) 47 a)
                              | inr z ↦ good_4 text at (eqb-true (get_or text at 0) 37 z)
                            ]
                        | inr z ↦ good_7 text at (eqb-true (get_or text at 0) 126 z)
                      ]
                  | inr z ↦ good_20 text at (eqb-true (get_or text at 0) 38 z)
                ]
            | inr z ↦ good_21 text at (eqb-true (get_or text at 0) 124 z)
          ]
      | inr z ↦ good_22 text at (eqb-true (get_or text at 0) 94 z)
    ])
    (λ n. choose text at (eqb (get_or text at 0) 61) _ _ (λ t. choose text at (eqb (get_or text (at + 1) 0) 61)
    (if eqb (get_or text (at + 2) 0) 61 then 3 else 2) 0
    (λ u. choose text at (eqb (get_or text (at + 2) 0) 61) 3 2
    (λ v. good_12 text at (eqb-true (get_or text at 0) 61 t) (eqb-true (get_or text (at + 1) 0) 61 u)
    (eqb-true (get_or text (at + 2) 0) 61 v)) (λ v. good_10 text at (eqb-true (get_or text at 0) 61 t)
    (eqb-true (get_or text (at + 1) 0) 61 u))) (λ u. nothing text at))
    (λ n. choose text at (eqb (get_or text at 0) 60) _ _ (λ t. choose text at (eqb (get_or text (at + 1) 0) 61)
    (if eqb (get_or text (at + 2) 0) 62 then 3 else 2) (if eqb (get_or text (at + 1) 0) 60 then 2 else 1)
    (λ u. choose text at (eqb (get_or text (at + 2) 0) 62) 3 2
    (λ v. good_17 text at (eqb-true (get_or text at 0) 60 t) (eqb-true (get_or text (at + 1) 0) 61 u)
    (eqb-true (get_or text (at + 2) 0) 62 v)) (λ v. good_14 text at (eqb-true (get_or text at 0) 60 t)
    (eqb-true (get_or text (at + 1) 0) 61 u))) (λ u. choose text at (eqb (get_or text (at + 1) 0) 60) 2 1
    (λ v. good_18 text at (eqb-true (get_or text at 0) 60 t) (eqb-true (get_or text (at + 1) 0) 60 v))
    (λ v. good_13 text at (eqb-true (get_or text at 0) 60 t))))
    (λ n. choose text at (eqb (get_or text at 0) 62) _ _ (λ t. choose text at
    (eqb (get_or text (at + 1) 0) 61 || eqb (get_or text (at + 1) 0) 62) 2 1
    (λ u. elim (or_cases (eqb (get_or text (at + 1) 0) 61) (eqb (get_or text (at + 1) 0) 62) u) [
      | inl a ↦ good_16 text at (eqb-true (get_or text at 0) 62 t) (eqb-true (get_or text (at + 1) 0) 61 a)
      | inr z ↦ good_19 text at (eqb-true (get_or text at 0) 62 t) (eqb-true (get_or text (at + 1) 0) 62 z)
    ])
    (λ u. good_15 text at (eqb-true (get_or text at 0) 62 t)))
    (λ n. choose text at (eqb (get_or text at 0) 91) _ _ (λ t. choose text at (eqb (get_or text (at + 1) 0) 93)
    (if eqb (get_or text (at + 2) 0) 61 then 3 else 2) 0
    (λ u. choose text at (eqb (get_or text (at + 2) 0) 61) 3 2
    (λ v. good_24 text at (eqb-true (get_or text at 0) 91 t) (eqb-true (get_or text (at + 1) 0) 93 u)
    (eqb-true (get_or text (at + 2) 0) 61 v)) (λ v. good_23 text at (eqb-true (get_or text at 0) 91 t)
    (eqb-true (get_or text (at + 1) 0) 93 u))) (λ u. nothing text at))
    (λ n. nothing text at))))))))

-- ---- so the longest is read

pub name_longest : (text : List ℕ) (at : ℕ) → at < operator_end text at
    → IsLongest (IsOperatorName text at) (operator_end text at)
name_longest text at some = record {
  there = name_good text at (omega (arith, some));
  longest = λ other is. (name_far text at other is).near;
}

pub name_ends : (text : List ℕ) (at end : ℕ) → IsLongest (IsOperatorName text at) end → operator_end text at ≡ end
name_ends text at end l =
    let f = name_far text at end l.there in
    longest_once (IsOperatorName text at) (operator_end text at) end
    (name_longest text at (omega (arith, f.some, f.near))) l

-- @ and $ name no operator
no_sigil : (text : List ℕ) (at sigil : ℕ) → 0 < name_at text at → ((b c : ℕ) → operator_name sigil b c ≡ 0)
    → eqb (get_or text at 0) sigil ≡ false
no_sigil text at sigil some none =
    elim (cases_Bool (eqb (get_or text at 0) sigil)) [
      | inl is ↦
          let e = eqb-true (get_or text at 0) sigil is in
          let zero-is : name_at text at ≡ 0 = rw e (none (get_or text (at + 1) 0) (get_or text (at + 2) 0)) in
          absurd (omega (arith, some, zero-is))
      | inr other ↦ other
    ]

at_sign_none : (b c : ℕ) → operator_name 64 b c ≡ 0
unfolding operator_name
at_sign_none b c = refl

dollar_none : (b c : ℕ) → operator_name 36 b c ≡ 0
unfolding operator_name
dollar_none b c = refl

pub method_operator_read : (text : List ℕ) (at end : ℕ) (bytes : List ℕ) (s : State)
    → IsMethodOperator text (place_of s at) bytes end → other_step text at s
    ≡ passed (took s at (kinds.MethodName bytes)) end
unfolding other_step name_of after value_at is_newline bars_after
method_operator_read text at end bytes s m =
    let e = name_ends text at end m.name in
    let f = name_far text at end m.name.there in
    let some : 0 < name_at text at = omega (arith, f.some, f.near) in
    let a = no_sigil text at 64 some at_sign_none in
    let d = no_sigil text at 36 some dollar_none in
    let same : eqb end at ≡ false = elim (cases_Bool (eqb end at))
    [ inl is ↦ absurd (omega (arith, f.some, eqb-true end at is)) | inr other ↦ other ] in
    rw (a, d, m.wanted, e, same, m.bytes_are) refl
