use Rattle.std.proofs.Common.{◌≡◌, ◌∙◌, length, refl}
use Rattle.std.proofs.lemmas.List.Elements.{All-same}
use Rattle.memchr.specs.Find.{is_byte}
use Rattle.rb_string.specs.Parts.{IsWithin, lines}
use Rattle.rb_string.proofs.Apart.{apart_next, apart_places}
use Rattle.rb_string.proofs.Places.{ended_step, ended_end}
use Rattle.rb_string.proofs.Within.{lines_within}
use Rattle.rb_string.proofs.splitting.lines.Goals as goal

pub newlines-init : goal.newlines-init
newlines-init c = record {
  apart = rw c.memchr_iter-newlines.ensures.value (apart_places (is_byte 10) c.args.text.now);
  same = rw (c.new-list.ensures, c.memchr_iter-newlines.ensures.value) refl;
}

pub newlines-preserved : goal.newlines-preserved
newlines-preserved c =
    let next = apart_next (length c.args.text.now) 1 c.newlines.from c.in-Some.at c.newlines.newlines c.next.new.self
    c.in-Some.ensures.steps c.newlines.invariant.apart in
    record {
      apart = next.2;
      same = rw c.in_ok-push.ensures.ok (ended_step (length c.args.text.now) c.newlines.from c.in-Some.at
          c.newlines.newlines c.next.new.self c.newlines.list (lines c.args.text.now) c.in-Some.ensures.steps
          c.newlines.invariant.same);
    }

pub returns-clause-value : goal.returns-clause-value
returns-clause-value c =
    c.in_ok-push_some.ensures ∙ ended_end (length c.args.text.now) c.newlines.from c.newlines.newlines c.newlines.list
    (lines c.args.text.now) c.in_default.ensures.steps.0 c.newlines.invariant.same

pub returns-clause-within : goal.returns-clause-within
returns-clause-within c =
    let whole : c.push_some.new.list ≡ lines c.args.text.now =
    c.in_ok-push_some.ensures ∙ ended_end (length c.args.text.now) c.newlines.from c.newlines.newlines c.newlines.list
    (lines c.args.text.now) c.in_default.ensures.steps.0 c.newlines.invariant.same in
    All-same (IsWithin c.args.text.now) c.push_some.new.list (lines c.args.text.now) whole
    (lines_within c.args.text.now)
