use Rattle.std.proofs.Common.{◌≡◌, true, false, List, ℕ, ◌++◌, length, slice_range, sym, ap, subst, ◌∙◌, append_assoc}
use Rattle.std.specs.Prelude.{IfOk}
use Rattle.std.proofs.lemmas.Bool.{false≢true}
use Rattle.rb_string.specs.Limit.{fits}
use Rattle.rb_string.specs.Substitution.{expanded}
use Rattle.rb_string.proofs.Limits.{front_fits_not}
use Rattle.rb_string.proofs.substitution.append_match.Goals as goal

pub returns-then-not-branch : goal.returns-then-not-branch
returns-then-not-branch c =
    let made = c.args.made.now.items in
    let piece = slice_range c.args.text.now c.args.from c.args.at in
    let put = expanded c.args.text.now c.args.at c.args.count c.args.new.now in
    record {
      long = λ _. front_fits_not (made ++ (piece ++ put)) (made ++ piece) put (append_assoc made piece put)
          (sym c.in_ok-append.ensures.fits ∙ c.if-not-branch.true);
      items = λ is. absurd (false≢true is);
    }

pub returns : goal.returns
returns c =
    let made = c.args.made.now.items in
    let piece = slice_range c.args.text.now c.args.from c.args.at in
    let put = expanded c.args.text.now c.args.at c.args.count c.args.new.now in
    let items : c.append.new.text.items ≡ made ++ piece =
    rw c.if-not-branch.false at c.in_ok-append.ensures.items in
    let whole : c.append.new.text.items ++ put ≡ made ++ (piece ++ put) =
    ap (λ l. l ++ put) items ∙ append_assoc made piece put in
    record {
      long = subst (λ (l : List ℕ). IfOk c.append_expanded.result (λ b. b ≡ false → fits (length l) ≡ false)) whole
          c.append_expanded.ensures.long;
      items = subst (λ (l : List ℕ). IfOk c.append_expanded.result
          (λ b. b ≡ true → c.append_expanded.new.made.items ≡ l)) whole c.append_expanded.ensures.items;
    }
