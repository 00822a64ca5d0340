-- The numbers of a plain form have 32 bits.
use Rattle.std.proofs.Common.{◌≡◌, true, nat_eq}
use Rattle.std.proofs.lemmas.Bool.{and_parts}
use Rattle.path_core.specs.Form.{Action, give_nil, give_true, give_int, call_operator, call_puts, Form, strict, local, set_local, seq, cond, while_form, Forms, none, more}
use Rattle.code_generator.specs.Limits.{count, arity, is_plain_action, is_plain, are_plain, IsWithin}
use Rattle.code_generator.specs.Emission.{IsNumbered, HasNumbers, HaveNumbers}
use Rattle.code_generator.proofs.Bounds.{three_parts}

numbered : (a : Action) → is_plain_action a ≡ true → IsNumbered a
numbered give_nil h = tt
numbered give_true h = tt
numbered (give_int z) h = h
numbered (call_operator o) h = tt
numbered call_puts h = tt

mutual
  pub plain_numbers : (f : Form) → is_plain f ≡ true → HasNumbers f
  plain_numbers (strict a es) h = let p = three_parts (is_plain_action a) (nat_eq (count es) (arity a)) (are_plain es) h
      in (numbered a p.0, all_plain_numbers es p.2)
  plain_numbers (local x) h = tt
  plain_numbers (set_local x e) h = plain_numbers e h
  plain_numbers (seq es) h = all_plain_numbers es h
  plain_numbers (cond t a b) h = let p = three_parts (is_plain t) (is_plain a) (is_plain b) h in
      (plain_numbers t p.0, plain_numbers a p.1, plain_numbers b p.2)
  plain_numbers (while_form t b) h = let p = and_parts (is_plain t) (is_plain b) h in
      (plain_numbers t p.0, plain_numbers b p.1)

  pub all_plain_numbers : (es : Forms) → are_plain es ≡ true → HaveNumbers es
  all_plain_numbers none h = tt
  all_plain_numbers (more e es) h = let p = and_parts (is_plain e) (are_plain es) h in
      (plain_numbers e p.0, all_plain_numbers es p.1)

pub within_numbers : (f : Form) → IsWithin f → HasNumbers f
within_numbers f w = plain_numbers f w.plain
