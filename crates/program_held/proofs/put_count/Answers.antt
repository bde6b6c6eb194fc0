-- `program_held::put_count` meets its contract: the count's last four bytes follow the answer. Assumes nothing.
use Rattle.program_held.proofs.Holding.{counted, counted_most}
use Rattle.program_held.proofs.put_count.Goals as goal

pub returns-clause-put : goal.returns-clause-put
returns-clause-put c = counted c.args.a c.args.count c.to_be_bytes-bytes.ensures c.put_answer.ensures.put

pub returns-clause-most : goal.returns-clause-most
returns-clause-most c = counted_most c.args.a c.args.count c.to_be_bytes-bytes.ensures c.put_answer.ensures.most
