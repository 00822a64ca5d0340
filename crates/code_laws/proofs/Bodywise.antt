-- No check fails in a sound body whose children are made where they are used.
use Rattle.std.proofs.Common.{◌≡◌, ◌<◌, ◌≤◌, ℕ, zero, suc, ◌+◌, ◌-◌, List, [], ◌∷◌, ◌++◌, length, drop, take, map, arith, refl, sym, ap, ◌∙◌, subst, Bool, true, false, nat_eq, nat_lt, nat_le, length-append}
use Rattle.std.specs.Prelude.{Option, None, ◌||◌, ◌&&◌, not}
use Rattle.std.proofs.lemmas.Bool.{lt-ltb, le-leb, and_from}
use Rattle.rite_code.specs.declared.cause.Cause.TheVariants as cause
use Rattle.rite_code.specs.declared.code.Irep.{Irep}
use Rattle.rite_code.specs.declared.code.PoolItem.{PoolItem}
use Rattle.rite_code.specs.declared.operation.Parameters.{Parameters}
use Rattle.rite_code.specs.declared.operation.Operation.{Operation}
use Rattle.rite_code.specs.declared.operation.Operation.TheVariants as op
use Rattle.rite_code.specs.Instruction.{Instruction}
use Rattle.rite_code.specs.Spelling.{encodings}
use Rattle.rite_code.specs.Code.{Program, program}
use Rattle.scope_resolver.specs.declared.body_kind.BodyKind.{BodyKind}
use Rattle.scope_resolver.specs.Layout.{Slots, Scopes, seen_around, has_parameters}
use Rattle.code_outline.specs.Layout.{Standing, layout, end_of, is_start}
use Rattle.code_outline.specs.Makers.{maker_of}
use Rattle.code_verifier.specs.Needs.{is_jump}
use Rattle.code_verifier.specs.Checks.{Bad, first, unless, takes_arguments, bad, instructions_bad, end_bad, catch_holds, catches_bad, body_bad, parameter_count, are_jumps, jumps_follow}
use Rattle.gen_parts.specs.declared.line.Line.{Line}
use Rattle.gen_parts.specs.declared.line.Line.TheVariants as line
use Rattle.gen_parts.specs.declared.line.Catch.{Catch}
use Rattle.gen_parts.specs.declared.assembling.Head.{Head}
use Rattle.gen_parts.specs.Pieces.{Piece}
use Rattle.gen_parts.specs.Assembly.{size, places, place_of, instruction_before, instructions, entry_by}
use Rattle.code_laws.proofs.Serves.{Room}
use Rattle.code_laws.proofs.Wells.{FineLines, FineCatch, FineCatches, Entered, JumpsFollow, Ends, Sound, IsMade}
use Rattle.code_laws.proofs.Assembled.{standing_of, standing_lines, AllFit, sizes, layout_is, length_encodings, total_is, end_is, read_all, sizes_weights, place_starts, place_most, places_rise, some_line}
use Rattle.code_laws.proofs.Checking.{Behind, LastLeaves, last_leaves, Stood, Used, Good, no_cause, none_fails, falls, later_behind, later_leaves, any_used}
use Rattle.code_laws.proofs.Encoding.{all_few, entered_fit}

does_operation : (wide : Bool) (at : List ℕ) (next : ℕ) (o : Operation)
    → (instruction_before wide at next (line.Does o)).operation ≡ o
unfolding instruction_before
does_operation wide at next o = refl

first_jump : (wide : Bool) (at : List ℕ) (next to : ℕ) (r : Bool) → r ≡ true
    → (is_jump (instruction_before wide at next (line.Jump to)).operation && r) ≡ true
unfolding instruction_before
first_jump wide at next to r e = e

-- the jumps behind ENTER
jumps_there : (wide : Bool) (at : List ℕ) (here k : ℕ) (ls : List Line) → JumpsFollow k ls
    → (k ≤ length (standing_of here (instructions wide at here ls)))
    × (are_jumps (take k (standing_of here (instructions wide at here ls))) ≡ true)
unfolding standing_of
jumps_there wide at here zero ls h = (omega arith, refl)
jumps_there wide at here (suc k) [] h = absurd h
jumps_there wide at here (suc k) (line.Does o ∷ ls) h = absurd h.0
jumps_there wide at here (suc k) (line.Jump to ∷ ls) h =
    let next = here + size wide (line.Jump to) in
    let j = jumps_there wide at next k ls h.1 in
    let e = standing_lines wide at here (line.Jump to) ls in (
      subst (λ (ss : List Standing). suc k ≤ length ss) (sym e) (omega (arith, j.0)),
      subst (λ (ss : List Standing). are_jumps (take (suc k) ss) ≡ true) (sym e)
          (first_jump wide at next to (are_jumps (take k (standing_of next (instructions wide at next ls)))) j.1),
    )
jumps_there wide at here (suc k) (line.JumpIf r to ∷ ls) h = absurd h.0
jumps_there wide at here (suc k) (line.JumpNot r to ∷ ls) h = absurd h.0
jumps_there wide at here (suc k) (line.Leave to ∷ ls) h = absurd h.0

follow_holds : (n : ℕ) (ss : List Standing) → (0 < n → (n + 1 ≤ length ss) × (are_jumps (take (n + 1) ss) ≡ true))
    → jumps_follow n ss ≡ true
follow_holds zero ss h = refl
follow_holds (suc n) ss h =
    let j = h (omega arith) in
    right (nat_eq (suc n) 0) (and_from (nat_le (suc n + 1) (length ss)) (are_jumps (take (suc n + 1) ss))
    (le-leb (suc n + 1) (length ss) j.0) j.1)
  where
    right : {r : Bool} → (b : Bool) → r ≡ true → (b || r) ≡ true
    right true e = refl
    right false e = e

module _ (p : Program) (n : ℕ) (m : Room) (b : Irep) (stood : Stood p n m b) (ss : List Standing) (wide : Bool)
    (at : List ℕ) (end : ℕ) (starts : (to : ℕ) → to ≤ end → is_start ss (place_of at to) ≡ true) where
  enter_good : (q : Parameters) (ls : List Line) → takes_arguments (maker_of p n) ≡ true
      → ss ≡ standing_of 0 (instructions wide at 0 (line.Does (op.Enter q) ∷ ls)) → parameter_count q + 2 ≤ b.locals
      → q.spare ≡ false → (0 < q.optional → JumpsFollow (q.optional + 1) ls)
      → nat_lt (0 + size wide (line.Does (op.Enter q))) (length b.code) ≡ true
      → Good p n b ss 0 (0 + size wide (line.Does (op.Enter q))) (op.Enter q)
  enter_good q ls takes is room spare follow fall =
      let next = 0 + size wide (line.Does (op.Enter q)) in
      let rest = standing_of next (instructions wide at next ls) in
      let behind : drop 1 ss ≡ rest = ap (drop 1) (is ∙ standing_lines wide at 0 (line.Does (op.Enter q)) ls) in
      let jumps : jumps_follow q.optional rest ≡ true =
      follow_holds q.optional rest (λ some. jumps_there wide at next (q.optional + 1) ls (follow some)) in
      record {
        counted = refl;
        registers = le-leb 0 b.registers (omega arith);
        entry = refl;
        symbols = refl;
        child = refl;
        jump = refl;
        variable = refl;
        enter = rw (takes, behind) (and_from (nat_le (parameter_count q + 2) b.locals && not q.spare)
            (jumps_follow q.optional rest) (and_from (nat_le (parameter_count q + 2) b.locals) (not q.spare)
            (le-leb (parameter_count q + 2) b.locals room) (ap not spare)) jumps);
        place = refl;
        once = refl;
        used = any_used p n 0 stood.has;
        fall = fall;
      }

  enter_first : (q : Parameters) (ls : List Line) (others : List (Option Bad))
      → takes_arguments (maker_of p n) ≡ true
      → ss ≡ standing_of 0 (instructions wide at 0 (line.Does (op.Enter q) ∷ ls)) → parameter_count q + 2 ≤ b.locals
      → q.spare ≡ false → (0 < q.optional → JumpsFollow (q.optional + 1) ls) → FineLines m end ls
      → Used p n b wide 0 (line.Does (op.Enter q) ∷ ls) → LastLeaves (line.Does (op.Enter q) ∷ ls)
      → 0 + sizes wide (line.Does (op.Enter q) ∷ ls) ≡ length b.code
      → first (instructions_bad p n b ss (standing_of 0 (instructions wide at 0 (line.Does (op.Enter q) ∷ ls)))
      ++ others)
      ≡ first others
  unfolding first sizes
  enter_first q ls others takes is room spare follow f u h e =
      let l = line.Does (op.Enter q) in
      let next = 0 + size wide l in
      let i = instruction_before wide at next l in
      let rest = standing_of next (instructions wide at next ls) in
      let fall = falls p n m b stood ss wide at end starts 0 l ls h e in
      ap (λ (xs : List Standing). first (instructions_bad p n b ss xs ++ others)) (standing_lines wide at 0 l ls)
      ∙ ap (λ (c : Option _). first (bad n 0 c ∷ (instructions_bad p n b ss rest ++ others)))
      (no_cause p n b ss 0 next i.wide i.operation
      (subst (λ (o : Operation). Good p n b ss 0 next o) (sym (does_operation wide at next (op.Enter q)))
      (enter_good q ls takes is room spare follow fall)))
      ∙ none_fails p n m b stood ss wide at end starts next ls others f u.2
      (later_behind p n m b stood ss wide at end starts (takes_arguments (maker_of p n)) 0 l)
      (later_leaves p n m b stood ss wide at end starts l ls h) (omega (arith, e))

  pub entered_passes : (takes : Bool) (ls : List Line) (others : List (Option Bad))
      → takes_arguments (maker_of p n) ≡ takes
      → ss ≡ standing_of 0 (instructions wide at 0 ls) → Entered takes b.locals m end ls → Used p n b wide 0 ls
      → LastLeaves ls → 0 + sizes wide ls ≡ length b.code
      → first (instructions_bad p n b ss (standing_of 0 (instructions wide at 0 ls)) ++ others) ≡ first others
  entered_passes false ls others takes is f u h e =
      none_fails p n m b stood ss wide at end starts 0 ls others f u
      (subst (λ (t : Bool). Behind t 0) (sym takes) tt) h e
  entered_passes true [] others takes is f u h e = absurd f
  entered_passes true (l ∷ ls) others takes is f u h e =
      let q = f.0.parameters in
      let same = f.0.is in
      subst (λ (x : Line). first (instructions_bad p n b ss (standing_of 0 (instructions wide at 0 (x ∷ ls))) ++ others)
      ≡ first others) (sym same)
      (enter_first q ls others takes
      (subst (λ (x : Line). ss ≡ standing_of 0 (instructions wide at 0 (x ∷ ls))) same is) f.0.count f.0.spare
      f.0.follow
      f.1 (subst (λ (x : Line). Used p n b wide 0 (x ∷ ls)) same u)
      (subst (λ (x : Line). LastLeaves (x ∷ ls)) same h)
      (subst (λ (x : Line). 0 + sizes wide (x ∷ ls) ≡ length b.code) same e))

-- ## Catch tables

catch_passes : (wide : Bool) (ls : List Line) (ss : List Standing) (end size : ℕ) (c : Catch)
    → end < length ls → ((to : ℕ) → to ≤ end → is_start ss (place_of (places wide 0 ls) to) ≡ true)
    → FineCatch end c → catch_holds size ss (entry_by (places wide 0 ls) c) ≡ true
catch_passes wide ls ss end size c some starts f =
    let at = places wide 0 ls in
    let e = entry_by at c in
    and_from (nat_lt e.begin e.end && is_start ss e.begin && is_start ss e.target)
    (is_start ss e.end || nat_eq e.end size)
    (and_from (nat_lt e.begin e.end && is_start ss e.begin) (is_start ss e.target)
    (and_from (nat_lt e.begin e.end) (is_start ss e.begin)
    (lt-ltb e.begin e.end (places_rise wide 0 c.begin c.end ls f.covers (omega (arith, f.within, some))))
    (starts c.begin (omega (arith, f.covers, f.within)))) (starts c.target f.lands))
    (left (is_start ss e.end) (nat_eq e.end size) (starts c.end f.within))
  where
    left : (a r : Bool) → a ≡ true → (a || r) ≡ true
    left true r e = refl
    left false r e = absurd (cc)

catches_pass : (n : ℕ) (b : Irep) (wide : Bool) (ls : List Line) (ss : List Standing) (end : ℕ) (cs : List Catch)
    → end < length ls → ((to : ℕ) → to ≤ end → is_start ss (place_of (places wide 0 ls) to) ≡ true)
    → FineCatches end cs → first (catches_bad n b ss (map (entry_by (places wide 0 ls)) cs)) ≡ None
unfolding first
catches_pass n b wide ls ss end [] some starts f = refl
catches_pass n b wide ls ss end (c ∷ cs) some starts f =
    let e = entry_by (places wide 0 ls) c in
    ap (λ (h : Bool). first (bad n e.begin (unless h cause.Catch) ∷ catches_bad n b ss
    (map (entry_by (places wide 0 ls)) cs)))
    (catch_passes wide ls ss end (length b.code) c some starts f.0)
    ∙ catches_pass n b wide ls ss end cs some starts f.1

-- ## The whole body

abbrev pub body_of : Head → List PoolItem → List (List ℕ) → Piece → Irep
body_of h pool symbols q = record {
  locals = h.locals;
  registers = h.registers;
  code = encodings (instructions h.wide (places h.wide 0 q.lines) 0 q.lines);
  catches = map (entry_by (places h.wide 0 q.lines)) q.catches;
  pool = pool;
  symbols = symbols;
  children = q.children;
}

some_lines : (ls : List Line) → Ends ls → 0 < length ls
some_lines ls e = omega (arith, ap length e.are, length-append e.front (line.Does e.last ∷ []))

module _ (n : ℕ) (k : BodyKind) (mine : Slots) (around : Scopes) (h : Head) (pool : List PoolItem)
    (symbols : List (List ℕ)) (q : Piece) (s : Sound k mine around h pool symbols q)
    (made : IsMade (mine ∷ seen_around k around) 0 (n + 1) q.lines q.children q.bodies)
    (deep : length (mine ∷ seen_around k around) ≤ 65536) (few : length q.bodies ≤ 65535) where
  abbrev b : Irep
  b = body_of h pool symbols q

  abbrev at : List ℕ
  at = places h.wide 0 q.lines

  abbrev is : List Instruction
  is = instructions h.wide at 0 q.lines

  some : 0 < length q.lines
  some = some_lines q.lines s.ends

  fit : AllFit is
  fit =
      let light = sizes_weights h.wide q.lines in
      entered_fit s.room h.wide at (length q.lines - 1) (sizes h.wide q.lines)
      (subst (λ (sc : Scopes). length sc ≤ 65536) (sym s.scopes) deep) (omega (arith, s.registers, s.few))
      (λ to l. let most = place_most h.wide 0 to q.lines (omega (arith, l)) in omega (arith, most))
      (omega (arith, light, s.small))
      (λ e. let both = s.narrow e in (omega (arith, light, both.0), omega (arith, s.registers, both.1)))
      (has_parameters k) h.locals q.lines (omega arith) s.entered (all_few made (omega (arith, few)))

  pub laid : layout 2 b.code ≡ standing_of 0 is
  laid = layout_is is fit

  long : length b.code ≡ sizes h.wide q.lines
  long = length_encodings is ∙ total_is h.wide at 0 q.lines

  starts : (to : ℕ) → to ≤ length q.lines - 1 → is_start (standing_of 0 is) (place_of at to) ≡ true
  starts to l = place_starts h.wide at 0 to q.lines (omega (arith, l, some))

  some_code : (ls : List Line) → 0 < length ls → 0 < sizes h.wide ls
  unfolding sizes
  some_code [] l = absurd (omega (arith, l))
  some_code (l ∷ ls) m = omega (arith, some_line h.wide l)

  pub body_passes : (all : List Irep) → Stood (program 2 all) n s.room b
      → takes_arguments (maker_of (program 2 all) n) ≡ has_parameters k → Used (program 2 all) n b h.wide 0 q.lines
      → body_bad (program 2 all) n b ≡ None
  unfolding body_bad first
  body_passes all stood takes used =
      let p = program 2 all in
      let ss = standing_of 0 is in
      let leave : LastLeaves q.lines = subst LastLeaves (sym s.ends.are)
      (last_leaves s.ends.front s.ends.last s.ends.leave) in
      let others : List (Option Bad) = end_bad p n b (end_of 0 ss) ∷ catches_bad n b ss b.catches in
      ap (λ (xs : List Standing). first (instructions_bad p n b xs xs ++ end_bad p n b (end_of 0 xs)
      ∷ catches_bad n b xs b.catches)) laid
      ∙ entered_passes p n s.room b stood ss h.wide at (length q.lines - 1) starts (has_parameters k) q.lines others
      takes
      refl s.entered used leave (omega (arith, long))
      ∙ ap (λ (c : Option _). first (bad n (end_of 0 ss) c ∷ catches_bad n b ss b.catches))
      (read_all b.code (end_of 0 ss) (omega (arith, long, some_code q.lines some))
      (end_is 0 is ∙ omega (arith, length_encodings is)))
      ∙ catches_pass n b h.wide q.lines ss (length q.lines - 1) q.catches (omega (arith, some)) starts s.catches
