use Rattle.std.proofs.Common.{◌≡◌, ◌+◌, true, false, [], ◌∷◌, ◌++◌, get_or, drop, sym, ◌∙◌, arith}
use Rattle.std.proofs.lemmas.Bool.{false≢true}
use Rattle.rb_string.specs.Substitution.{reference, expanded}
use Rattle.rb_string.proofs.Expansions.{reference_here, other_here, last_here, end_here, put_step, put_long, put_end}
use Rattle.rb_string.proofs.substitution.append_references.Goals as goal
use Rattle.rb_string.proofs.substitution.append_references.Goals.{else-new-from-eq92-via-then-new-from-eq92+else-new-from-gt1, else-new-from-eq92-via-else-new-from-eq92}

pub returns-then-not-branch : goal.returns-then-not-branch
returns-then-not-branch c =
    let put = expanded c.args.text.now c.args.at c.args.count in
    let next = reference_here c.args.text.now c.args.at c.args.count c.args.new.now c.bytes.from
    c.if-new-from-gt1.true c.if-new-from-eq92.true in
    record {
      long = λ _. put_long c.bytes.made.items
          (reference c.args.text.now c.args.at c.args.count (get_or c.args.new.now (c.bytes.from + 1) 0))
          (put (drop c.bytes.from c.args.new.now)) (put (drop (c.bytes.from + 2) c.args.new.now))
          (c.args.made.now.items ++ put c.args.new.now) next c.bytes.invariant.same
          (sym c.in_ok-append_reference.ensures.fits ∙ c.if-not-branch.true);
      items = λ is. absurd (false≢true is);
    }

pub bytes-preserved-then-new-from-gt1 : goal.bytes-preserved-then-new-from-gt1
bytes-preserved-then-new-from-gt1 c =
    let put = expanded c.args.text.now c.args.at c.args.count in
    let next = reference_here c.args.text.now c.args.at c.args.count c.args.new.now c.bytes.from
    c.if-new-from-gt1.true c.if-new-from-eq92.true in
    let items : c.append_reference.new.made.items ≡ c.bytes.made.items
    ++ reference c.args.text.now c.args.at c.args.count (get_or c.args.new.now (c.bytes.from + 1) 0) =
    rw c.if-not-branch.false at c.in_ok-append_reference.ensures.items in
    record {
      within = omega arith;
      same = rw items (put_step c.bytes.made.items
          (reference c.args.text.now c.args.at c.args.count (get_or c.args.new.now (c.bytes.from + 1) 0))
          (put (drop c.bytes.from c.args.new.now)) (put (drop (c.bytes.from + 2) c.args.new.now))
          (c.args.made.now.items ++ put c.args.new.now) next c.bytes.invariant.same);
    }

pub bytes-preserved : goal.bytes-preserved
bytes-preserved c =
    let put = expanded c.args.text.now c.args.at c.args.count in
    let byte = get_or c.args.new.now c.bytes.from 0 ∷ [] in
    let next : put (drop c.bytes.from c.args.new.now) ≡ byte ++ put (drop (c.bytes.from + 1) c.args.new.now) =
    elim c.else-new-from-eq92.branch [
      | else-new-from-eq92-via-then-new-from-eq92+else-new-from-gt1 w ↦
          last_here c.args.text.now c.args.at c.args.count c.args.new.now c.bytes.from c.bytes-test.true
          w.if-new-from-gt1.false
      | else-new-from-eq92-via-else-new-from-eq92 w ↦
          other_here c.args.text.now c.args.at c.args.count c.args.new.now c.bytes.from c.bytes-test.true
          w.if-new-from-eq92.false
    ] in
    let items : c.append.new.text.items ≡ c.bytes.made.items ++ byte =
    rw c.if-not-branch-2.false at c.in_ok-append.ensures.items in
    record {
      within = omega arith;
      same = rw items (put_step c.bytes.made.items byte (put (drop c.bytes.from c.args.new.now))
          (put (drop (c.bytes.from + 1) c.args.new.now)) (c.args.made.now.items ++ put c.args.new.now) next
          c.bytes.invariant.same);
    }

pub returns-then-not-branch-2-clause-long : goal.returns-then-not-branch-2-clause-long
returns-then-not-branch-2-clause-long c =
    let put = expanded c.args.text.now c.args.at c.args.count in
    let byte = get_or c.args.new.now c.bytes.from 0 ∷ [] in
    let next : put (drop c.bytes.from c.args.new.now) ≡ byte ++ put (drop (c.bytes.from + 1) c.args.new.now) =
    elim c.else-new-from-eq92.branch [
      | else-new-from-eq92-via-then-new-from-eq92+else-new-from-gt1 w ↦
          last_here c.args.text.now c.args.at c.args.count c.args.new.now c.bytes.from c.bytes-test.true
          w.if-new-from-gt1.false
      | else-new-from-eq92-via-else-new-from-eq92 w ↦
          other_here c.args.text.now c.args.at c.args.count c.args.new.now c.bytes.from c.bytes-test.true
          w.if-new-from-eq92.false
    ] in
    λ _. put_long c.bytes.made.items byte (put (drop c.bytes.from c.args.new.now))
    (put (drop (c.bytes.from + 1) c.args.new.now)) (c.args.made.now.items ++ put c.args.new.now) next
    c.bytes.invariant.same (sym c.in_ok-append.ensures.fits ∙ c.if-not-branch-2.true)

pub returns : goal.returns
returns c =
    let put = expanded c.args.text.now c.args.at c.args.count in
    record {
      long = λ is. absurd (false≢true (sym is));
      items = λ _. put_end c.bytes.made.items (put (drop c.bytes.from c.args.new.now))
          (c.args.made.now.items ++ put c.args.new.now)
          (end_here c.args.text.now c.args.at c.args.count c.args.new.now c.bytes.from c.bytes-test.false)
          c.bytes.invariant.same;
    }
