use Rattle.std.proofs.Common.{◌%◌, ◌∙◌, length, get_or, ap, sym, arith}
use Rattle.chunk_list.proofs.Places.{chunk_is_there, place_is_there, read_at}
use Rattle.chunk_list.proofs.list.ChunkList.get.Goals as goal

pub index-requires : goal.index-requires
index-requires g c = omega (
  arith,
  chunk_is_there c.self.inside.chunks.items c.args.place c.self.invariant.0
      (omega (arith, ap length c.self.view_is, c.requires)),
)

pub index-requires-2 : goal.index-requires-2
index-requires-2 g c = omega (
  arith,
  ap (λ v. length v.items) c.index.ensures,
  place_is_there c.self.inside.chunks.items c.args.place c.index.result.now c.self.invariant.0
      (omega (arith, ap length c.self.view_is, c.requires)),
)

pub returns : goal.returns
returns g c =
    c.index-2.ensures ∙ ap (λ v. get_or v.items (c.args.place % 1024) c.index-2.result.now) c.index.ensures
    ∙ sym (read_at c.self.inside.chunks.items c.args.place c.index.result.now c.index-2.result.now c.self.invariant.0
    (omega (arith, ap length c.self.view_is, c.requires)))
    ∙ ap (λ l. get_or l c.args.place c.index-2.result.now) c.self.view_is
