use Rattle.std.proofs.Common.{◌≡◌, ◌+◌, ◌-◌, ℕ, length, take, drop, ap, sym, ◌∙◌, arith}
use Rattle.std.proofs.lemmas.List.{drop-take}
use Rattle.run_values.proofs.elements.between.Goals as goal

pub returns-then-front-stop : goal.returns-then-front-stop
returns-then-front-stop c =
    let stop = c.saturating_sub-stop.result in
    let e : c.args.front + (stop - c.args.front) ≡ length c.args.elements.now - c.args.end =
    omega (arith, c.saturating_sub-stop.ensures, c.if-front-stop.true) in
    sym (drop-take c.args.front (stop - c.args.front) c.args.elements.now)
    ∙ ap (λ (n : ℕ). drop c.args.front (take n c.args.elements.now)) e
