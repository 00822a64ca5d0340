-- What stands around a tree, beside what stands around its core.
use Rattle.std.proofs.Common.{◌≡◌, ℕ, true, List, [], ◌++◌, is_some, refl}
use Rattle.std.proofs.lemmas.Bool.{false≢true}
use Rattle.parser_tree.specs.Node.{Name, Node, Nodes}
use Rattle.parser_checks.specs.declared.around.Around.{Around}
use Rattle.parser_checks.specs.Places as places
use Rattle.ir_core.specs.CoreForm as form
use Rattle.ir_core.specs.CoreForm.{Local, Parameters, CoreForm, Forms, Items}
use Rattle.ir_core.specs.Program as cores
use Rattle.ir_core.specs.Program.{all_parameters, is_form, are_forms}
use Rattle.lower_table.specs.Lowering.{Passed, locals_of}
use Rattle.lower_table.specs.Parts.{passed, target_locals}
use Rattle.program_laws.specs.Fits.{fits, all_fit}
use Rattle.program_laws.proofs.Bound.{Within, within_left, within_right, required_within}
use Rattle.program_laws.proofs.Known.{Carries, carries_variables}
use Rattle.program_laws.proofs.Passing.{are_own, own_passed}

-- The place of a tree, the names known there and what a `super` passes there; the place of its core; and what the one
-- says of the other.
pub record Scene : Type 0 where
  pub place : Around
  pub names : List Name
  pub passes : Passed
  pub around : cores.Around
  pub may_loop : place.in_loop ≡ true → around.loops ≡ true
  pub may_retry : place.in_clause ≡ true → around.clause ≡ true
  pub may_leave : place.may_return ≡ true → around.returns ≡ true
  pub has_method : place.in_method ≡ true → is_some around.method ≡ true
  pub are_known : Carries names around.known
  pub are_passed : are_own passes around.method ≡ true

-- a node and nodes that fit there, and a form and forms that stand there
abbrev pub Fitting : Scene → Node → Type 0
Fitting s n = fits s.place s.names n ≡ true

abbrev pub AllFitting : Scene → Nodes → Type 0
AllFitting s ns = all_fit s.place s.names ns ≡ true

abbrev pub Standing : Scene → CoreForm → Type 0
Standing s f = is_form s.around f ≡ true

abbrev pub AllStanding : Scene → Forms → Type 0
AllStanding s fs = are_forms s.around fs ≡ true

abbrev pub in_loop : Scene → Scene
in_loop s = record {
  place = places.within_loop s.place;
  names = s.names;
  passes = s.passes;
  around = cores.within_loop s.around;
  may_loop = λ h. refl;
  may_retry = s.may_retry;
  may_leave = s.may_leave;
  has_method = s.has_method;
  are_known = s.are_known;
  are_passed = s.are_passed;
}

abbrev pub in_clause : Scene → Scene
in_clause s = record {
  place = places.within_clause s.place;
  names = s.names;
  passes = s.passes;
  around = cores.within_clause s.around;
  may_loop = s.may_loop;
  may_retry = λ h. refl;
  may_leave = s.may_leave;
  has_method = s.has_method;
  are_known = s.are_known;
  are_passed = s.are_passed;
}

-- the target of a clause
abbrev pub in_target : Scene → Scene
in_target s = record {
  place = places.within_clause s.place;
  names = s.names;
  passes = s.passes;
  around = cores.within_target s.around;
  may_loop = s.may_loop;
  may_retry = λ h. refl;
  may_leave = s.may_leave;
  has_method = s.has_method;
  are_known = s.are_known;
  are_passed = s.are_passed;
}

-- inside of a block or a lambda with these names
abbrev pub in_block : (s : Scene) (q : Parameters) (ls : List Local) (ys : List Name)
    → Carries ys (all_parameters q ++ ls ++ s.around.known) → Scene
in_block s q ls ys k = record {
  place = places.within_block s.place;
  names = ys;
  passes = s.passes;
  around = cores.within_block s.around q ls;
  may_loop = λ h. refl;
  may_retry = λ h. absurd (false≢true h);
  may_leave = λ h. refl;
  has_method = s.has_method;
  are_known = k;
  are_passed = s.are_passed;
}

abbrev pub target_parameters : Nodes → Parameters
target_parameters ts = record { required = target_locals 0 ts; optional = []; rest = []; post = []; block = [] }

pub for_known : (s : Scene) (ts : Nodes)
    → Carries s.names (all_parameters (target_parameters ts) ++ [] ++ s.around.known)
for_known s ts x h =
    within_right (all_parameters (target_parameters ts) ++ []) s.around.known (form.named x) (s.are_known x h)

-- inside of the block of a `for` with these targets
abbrev pub in_for : Scene → Nodes → Scene
in_for s ts = record {
  place = places.within_for s.place;
  names = s.names;
  passes = s.passes;
  around = cores.within_block s.around (target_parameters ts) [];
  may_loop = λ h. refl;
  may_retry = λ h. absurd (false≢true h);
  may_leave = λ h. refl;
  has_method = s.has_method;
  are_known = for_known s ts;
  are_passed = s.are_passed;
}

pub targets_within : (s : Scene) (ts : Nodes) → Within (target_locals 0 ts) (in_for s ts).around.known
targets_within s ts x h =
    within_left (all_parameters (target_parameters ts) ++ []) s.around.known x
    (within_left (all_parameters (target_parameters ts)) [] x (required_within (target_parameters ts) x h))

-- inside of a method
abbrev pub in_method : (at : ℕ) (q : Parameters) (ls : List Local) (ys : List Name)
    → Carries ys (all_parameters q ++ ls) → Scene
in_method at q ls ys k = record {
  place = places.method at;
  names = ys;
  passes = passed q;
  around = cores.within_method q ls;
  may_loop = λ h. absurd (false≢true h);
  may_retry = λ h. absurd (false≢true h);
  may_leave = λ h. refl;
  has_method = λ h. refl;
  are_known = k;
  are_passed = own_passed q;
}

-- inside of a class or module with these variables
abbrev pub in_class : Scene → List Name → Scene
in_class s ls = record {
  place = places.class_body s.place;
  names = ls;
  passes = [];
  around = cores.within_class (locals_of ls);
  may_loop = λ h. absurd (false≢true h);
  may_retry = λ h. absurd (false≢true h);
  may_leave = λ h. absurd (false≢true h);
  has_method = λ h. absurd (false≢true h);
  are_known = carries_variables ls;
  are_passed = refl;
}

abbrev pub in_program : List Name → Scene
in_program ls = record {
  place = places.program;
  names = ls;
  passes = [];
  around = cores.within_program (locals_of ls);
  may_loop = λ h. absurd (false≢true h);
  may_retry = λ h. absurd (false≢true h);
  may_leave = λ h. refl;
  has_method = λ h. absurd (false≢true h);
  are_known = carries_variables ls;
  are_passed = refl;
}
