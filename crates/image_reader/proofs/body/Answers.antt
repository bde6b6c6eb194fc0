-- `image_reader::body` meets its contract. Assumes nothing.
use borrow.Author.Rules.{rules}
use Rattle.answer.specs.Table.{broken_image}
use Rattle.image.specs.mirror.Ends.{item_end}
use Rattle.image.specs.mirror.Run.{Behind}
use Rattle.image.proofs.Meaning.{read_means}
use Rattle.image_reader.specs.Taken.{answer_of, count_of}
use Rattle.image_reader.proofs.body.Goals as goal

pub returns-then-ne-clause-means : goal.returns-then-ne-clause-means
returns-then-ne-clause-means c =
    let g = c.args in
    let b : Behind g.rows.now (item_end g.rows.now g.run.now) g.run.now g.from (broken_image g.from) 0 = search rules in
    (read_means _ _ _ _ _ b).1

pub returns-clause-means : goal.returns-clause-means
returns-clause-means c =
    let g = c.args in
    let b : Behind g.rows.now (item_end g.rows.now g.run.now) g.run.now g.from (answer_of c.read_items.result) (count_of c.read_items.result) = search rules in
    (read_means _ _ _ _ _ b).1
