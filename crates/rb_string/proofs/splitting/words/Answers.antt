use Rattle.std.proofs.Common.{◌≡◌, ◌∙◌, sym, length, arith}
use Rattle.std.proofs.lemmas.List.Elements.{All-same}
use Rattle.rb_string.specs.Parts.{IsWithin, words}
use Rattle.rb_string.proofs.Places.{word_ends, word_goes_on, words_end}
use Rattle.rb_string.proofs.Within.{words_within}
use Rattle.rb_string.proofs.splitting.words.Goals as goal
use Rattle.rb_string.proofs.splitting.words.Goals.{then-is_space+in_ok-push_some, else-is_space}

pub bytes-preserved : goal.bytes-preserved
bytes-preserved c =
    elim c.if-is_space.branch [
      | then-is_space+in_ok-push_some w ↦
          record {
            within = omega arith;
            same = rw (w.list-is, w.from-is) (rw w.in_ok-push_some.ensures (word_ends c.args.text.now c.bytes.from c.bytes.at
                (length c.args.text.now) c.bytes.list (words c.args.text.now) c.bytes-test.true
                (sym c.is_space.ensures ∙ w.if-is_space.true) c.bytes.invariant.same));
          }
      | else-is_space w ↦
          record {
            within = omega arith;
            same = rw (w.list-is, w.from-is) (word_goes_on c.args.text.now c.bytes.from c.bytes.at (length c.args.text.now)
                c.bytes.list (words c.args.text.now) c.bytes-test.true (sym c.is_space.ensures ∙ w.if-is_space.false)
                c.bytes.invariant.same);
          }
    ]

pub returns-clause-value : goal.returns-clause-value
returns-clause-value c =
    c.in_ok-push_some-2.ensures ∙ words_end c.args.text.now c.bytes.from c.bytes.at (length c.args.text.now) c.bytes.list
    (words c.args.text.now) c.bytes-test.false c.bytes.invariant.same

pub returns-clause-within : goal.returns-clause-within
returns-clause-within c =
    let whole : c.push_some-2.new.list ≡ words c.args.text.now =
    c.in_ok-push_some-2.ensures ∙ words_end c.args.text.now c.bytes.from c.bytes.at (length c.args.text.now) c.bytes.list
    (words c.args.text.now) c.bytes-test.false c.bytes.invariant.same in
    All-same (IsWithin c.args.text.now) c.push_some-2.new.list (words c.args.text.now) whole
    (words_within c.args.text.now)
