use Rattle.std.proofs.Common.{◌≡◌, true, false, List, ℕ, ◌++◌, length, sym, ap, subst}
use Rattle.std.specs.Prelude.{IfOk}
use Rattle.rb_string.specs.Limit.{fits}
use Rattle.rb_string.specs.Substitution.{expanded}
use Rattle.rb_string.proofs.Expansions.{plain_from_search, long_from_append, items_from_append}
use Rattle.rb_string.proofs.substitution.append_expanded.Goals as goal

pub returns : goal.returns
returns c =
    let made = c.args.made.now.items in
    let put = expanded c.args.text.now c.args.at c.args.count c.args.new.now in
    let plain : put ≡ c.args.new.now =
    plain_from_search c.args.text.now c.args.at c.args.count c.args.new.now c.memchr.result (sym c.if-is_some.ensures)
    c.memchr.ensures in
    let whole : made ++ c.args.new.now ≡ made ++ put = ap (λ l. made ++ l) (sym plain) in
    record {
      long = subst (λ (l : List ℕ). IfOk c.append.result (λ b. b ≡ false → fits (length l) ≡ false)) whole
          (long_from_append c.append.result (made ++ c.args.new.now) c.append.ensures.fits);
      items = subst (λ (l : List ℕ). IfOk c.append.result (λ b. b ≡ true → c.append.new.text.items ≡ l)) whole
          (items_from_append c.append.result c.append.new.text.items (made ++ c.args.new.now) made
          c.append.ensures.items);
    }
