use Rattle.std.proofs.Common.{rules}
use Rattle.method_lookup.proofs.Places.{place_or_none}
use Rattle.method_lookup.proofs.cache.Cache.place_of.Goals as goal

pub returns-clause-reads : goal.returns-clause-reads
returns-clause-reads c = place_or_none c.args.self.now c.args.class c.args.name c.get_index_of.result (search rules)
