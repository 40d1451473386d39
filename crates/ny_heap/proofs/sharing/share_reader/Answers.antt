use Rattle.std.proofs.Common.{[]}
use Rattle.ny_heap.proofs.CountLemmas.{cursor_counted}
use Rattle.ny_heap.proofs.sharing.share_reader.Goals as goal

pub share-requires-clause-stands : goal.share-requires-clause-stands
share-requires-clause-stands c = cursor_counted c.args.table.now c.args.c.now [] c.requires.table
