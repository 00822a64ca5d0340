-- What waits behind a part, by the entries around it, and entries that cover a line.
use Rattle.std.proofs.Common.{◌≡◌, ◌<◌, ℕ, List, [], ◌∷◌, length, arith, refl, ap, ◌∙◌, subst, Bool, true, false, reverse, map}
use Rattle.std.specs.Prelude.{not, ◌&&◌, if◌then◌else◌, Some, None}
use Rattle.std.specs.List.{filter}
use Rattle.rb_value.specs.declared.exit.Exit.TheVariants.{Jump}
use Rattle.rite_code.specs.declared.code.CatchEntry.{CatchEntry}
use Rattle.ir_core.specs.CoreForm.{Clauses, no_clauses, clause}
use Rattle.gen_parts.specs.declared.line.Line.{Line}
use Rattle.gen_parts.specs.declared.line.Catch.{Catch}
use Rattle.gen_parts.specs.Pieces.{Piece}
use Rattle.gen_parts.specs.Assembly.{entry_by}
use Rattle.def_eval.specs.Configuration.{Stop, passes, loops, rescues, assigns, retries, ensures}
use Rattle.def_machine.specs.State.{body_at}
use Rattle.def_machine.specs.Unwind.{covers, covering, handler}
use Rattle.step_laws.specs.Guards.{is_over, guarding, guards_at}
use Rattle.step_laws.specs.Site.{Site, guarded_by, at_line, IsGuarded, AllCover, StaysIn, Lines}
use Rattle.step_laws.specs.Standing.{high, Stands}
use Rattle.step_laws.specs.Relation.{HasNone, Caught, Outside, IsPassed}

caught_kept : (cs : Clauses) (gs : List Catch) (P Q : List Catch → Type 0) → ((ds : List Catch) → P ds → Q ds)
    → Caught cs gs P → Caught cs gs Q
caught_kept no_clauses gs P Q to x = to gs x
caught_kept (clause es t b cs) gs P Q to x = (x.0, x.1, x.2, to x.1 x.3)

pub outside_kept : (o : Stop) (gs : List Catch) (P Q : List Catch → Type 0) → ((ds : List Catch) → P ds → Q ds)
    → Outside o gs P → Outside o gs Q
outside_kept passes gs P Q to x = to gs x
outside_kept (loops n t b) gs P Q to x = to gs x
outside_kept (rescues n r) gs P Q to x = caught_kept r.clauses gs P Q to x
outside_kept (assigns e r) gs P Q to x = to gs x
outside_kept (retries r) gs P Q to x = to gs x
outside_kept (ensures n e) gs P Q to x = (x.0, x.1, x.2, to x.1 x.3)

-- what is so however many entries are left
caught_any : (cs : Clauses) (gs : List Catch) (P : List Catch → Type 0) (C : Type 0) → ((ds : List Catch) → P ds → C)
    → Caught cs gs P → C
caught_any no_clauses gs P C to x = to gs x
caught_any (clause es t b cs) gs P C to x = to x.1 x.3

pub outside_any : (o : Stop) (gs : List Catch) (P : List Catch → Type 0) (C : Type 0) → ((ds : List Catch) → P ds → C)
    → Outside o gs P → C
outside_any passes gs P C to x = to gs x
outside_any (loops n t b) gs P C to x = to gs x
outside_any (rescues n r) gs P C to x = caught_any r.clauses gs P C to x
outside_any (assigns e r) gs P C to x = to gs x
outside_any (retries r) gs P C to x = to gs x
outside_any (ensures n e) gs P C to x = to x.1 x.3

-- behind a part that lets exits pass the entries are the same
caught_passed : (cs : Clauses) (gs : List Catch) (P : List Catch → Type 0) → HasNone cs → Caught cs gs P → P gs
caught_passed no_clauses gs P i x = x
caught_passed (clause es t b cs) gs P i x = absurd i

pub outside_passed : (o : Stop) (gs : List Catch) (P : List Catch → Type 0) → IsPassed o → Outside o gs P → P gs
outside_passed passes gs P i x = x
outside_passed (loops n t b) gs P i x = x
outside_passed (rescues n r) gs P i x = caught_passed r.clauses gs P i x
outside_passed (assigns e r) gs P i x = x
outside_passed (retries r) gs P i x = x
outside_passed (ensures n e) gs P i x = absurd i

-- Entries that cover a line take no jump to it.

cover_all : (at : ℕ) (cs : List CatchEntry) → AllCover at (filter (covers at) cs)
cover_all at [] = tt
cover_all at (c ∷ cs) = by (covers at c) refl (cover_all at cs)
  where
    by : (b : Bool) → covers at c ≡ b → AllCover at (filter (covers at) cs)
        → AllCover at (if b then c ∷ filter (covers at) cs else filter (covers at) cs)
    by true e all = (e, all)
    by false e all = all

pub stays_there : (h : Site) (n : ℕ) → IsGuarded h n → StaysIn h n
unfolding covering
stays_there h n e =
    subst (AllCover (at_line h n)) e (cover_all (at_line h n) (reverse (body_at h.program h.body).catches))

none_takes : (b t : Bool) → t ≡ true → (not b && not t) ≡ false
none_takes true t e = refl
none_takes false t e = ap not e

pub jump_stays : (a at : ℕ) (cs : List CatchEntry) → AllCover at cs → handler (Jump a at) cs ≡ None
jump_stays a at [] all = refl
jump_stays a at (c ∷ cs) all =
    ap (λ (b : Bool). if b then Some c.target else handler (Jump a at) cs) (none_takes c.rescue (covers at c) all.0)
    ∙ jump_stays a at cs all.1

-- The entries around a piece cover its first line.

all_inside : (f : Catch → CatchEntry) (at i : ℕ) (cs gs : List Catch) → AllCover at (map f (guards_at i cs gs))
    → AllCover at (map f gs)
all_inside f at i [] gs x = x
all_inside f at i (c ∷ cs) gs x = by (is_over i c) refl (all_inside f at i cs (guarding i c gs) x)
  where
    by : (b : Bool) → is_over i c ≡ b → AllCover at (map f (if b then c ∷ gs else gs)) → AllCover at (map f gs)
    by true e y = y.1
    by false e y = y

first_of_lines : (h : Site) (cs : List Catch) (n : ℕ) (ls : List Line) → 0 < length ls → Lines h cs n ls → StaysIn h n
first_of_lines h cs n [] some s = absurd (omega (arith, some))
first_of_lines h cs n (l ∷ ls) some s =
    all_inside (entry_by h.at) (at_line h n) n cs h.guards
    (stays_there (guarded_by h (guards_at n cs h.guards)) n s.0.guarded)

pub first_stays : (h : Site) (n : ℕ) (p : Piece) → 0 < high p → Stands h n p → StaysIn h n
unfolding Stands high
first_stays h n p some s = first_of_lines h p.catches n p.lines some s
