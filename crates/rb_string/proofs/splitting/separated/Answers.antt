use Rattle.std.proofs.Common.{◌≡◌, ◌∙◌, take, ap}
use Rattle.std.proofs.lemmas.List.Elements.{All-same}
use Rattle.rb_string.specs.Parts.{IsWithin, parts_between, length_without_empty_end, separated}
use Rattle.rb_string.proofs.Within.{separated_within}
use Rattle.rb_string.proofs.splitting.separated.Goals as goal

pub returns-clause-within : goal.returns-clause-within
returns-clause-within c =
    let text = c.args.text.now in
    let separator = c.args.separator.now in
    let size : c.length_without_empty_end-length.result ≡ length_without_empty_end c.in_ok-list.list.items =
    c.length_without_empty_end-length.ensures.value ∙ ap length_without_empty_end c.deref.ensures.value in
    let whole : c.from_vec.result ≡ separated text separator =
    c.from_vec.ensures ∙ c.truncate.ensures.items ∙ ap (λ n. take n c.in_ok-list.list.items) size
    ∙ ap (λ ps. take (length_without_empty_end ps) ps) c.in_ok-list.ensures in
    All-same (IsWithin text) c.from_vec.result (separated text separator) whole (separated_within text separator)
