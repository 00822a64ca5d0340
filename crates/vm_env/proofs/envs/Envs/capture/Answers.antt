use Rattle.std.proofs.Common.{◌≡◌, ◌+◌, ◌^◌, ◌<◌, ◌≤◌, length, map, arith, refl, ap, sym, ◌∙◌}
use Rattle.std.proofs.lemmas.List.{map-set}
use Rattle.vm_env.specs.Inside.{kept}
use Rattle.vm_env.proofs.Keeping.{captured_sound}
use Rattle.vm_env.proofs.envs.Envs.capture.Goals as goal

pub invariant_of-self-2 : goal.invariant_of-self-2
invariant_of-self-2 c =
    let fits : c.args.base + c.args.n < 2 ^ 64 = (rw c.in_ok-ok_or.ensures.ok_part at c.checked_add.ensures).0 in
    captured_sound _ _ _ c.in_ok-push.ensures.items
    (record {
      fits = fits;
      empty = λ is. c.in_ok-values.ensures.items;
      room =
          λ is. omega (arith, c.in_ok-values.ensures.capacity);
    }) refl (rw (← c.self.view_is) at c.requires)
    c.self.invariant
