use Rattle.std.proofs.Common.{◌≡◌, ◌∙◌, length, refl}
use Rattle.rb_string.specs.Parts.{parts_between}
use Rattle.rb_string.proofs.Apart.{apart_next, apart_matches}
use Rattle.rb_string.proofs.Places.{between_step, between_end}
use Rattle.rb_string.proofs.splitting.parts_between.Goals as goal

pub places-init : goal.places-init
places-init c = record {
  apart = rw c.find_iter-places.ensures.value (apart_matches c.args.text.now c.args.separator.now);
  same = rw (c.new-list.ensures.items, c.find_iter-places.ensures.value) refl;
}

pub places-preserved : goal.places-preserved
places-preserved c =
    let next = apart_next (length c.args.text.now) (length c.args.separator.now) c.places.from c.in-Some.at
    c.places.places c.next.new.self c.in-Some.ensures.steps c.places.invariant.apart in
    record {
      apart = next.2;
      same = rw c.in_ok-push.ensures.items (between_step (length c.args.text.now) (length c.args.separator.now)
          c.places.from c.in-Some.at c.places.places c.next.new.self c.places.list.items
          (parts_between c.args.text.now c.args.separator.now) c.in-Some.ensures.steps c.places.invariant.same);
    }

pub returns : goal.returns
returns c =
    c.in_ok-push-2.ensures.items ∙ between_end (length c.args.text.now) (length c.args.separator.now) c.places.from
    c.places.places c.places.list.items (parts_between c.args.text.now c.args.separator.now)
    c.in_default.ensures.steps.0 c.places.invariant.same
