-- The least that can be asked of Procs and of the bodies of methods: that the numbers of the world in them are there.
use Rattle.std.proofs.Common.{◌≡◌, ◌≤◌, ◌+◌, List, length, ap, ◌∙◌, arith, length-append}
use Rattle.world_laws.specs.Fine.{Goes, IsActivation, IsClasses, Bodies}

-- a list that goes on is no shorter
pub longer : {A : Type 0} (xs ys : List A) → Goes xs ys → length xs ≤ length ys
longer xs ys g =
    let e : length ys ≡ length xs + length g.more = ap length g.same ∙ length-append xs g.more in
    omega (arith, e)

unfoldable pub anywhere : Bodies
anywhere = record {
  ProcIs = λ w c. IsActivation w c.home × IsClasses w c.classes;
  BodyIs = λ w body classes. IsClasses w classes;
  proc_home = λ w c h. h.0;
  proc_classes = λ w c h. h.1;
  body_classes = λ w body classes h. h;
  proc_stays = λ w v c e h.
      let more = longer w.activations v.activations e.activations in
      let around = longer w.enclosing v.enclosing e.enclosing in
      ((h.0.0, omega (arith, h.0.1, more)), omega (arith, h.1, around));
  body_stays = λ w v body classes e h.
      let around = longer w.enclosing v.enclosing e.enclosing in omega (arith, h, around);
  proc_sent = λ w c s h. h;
  proc_lambda = λ w c l h. h;
}
