-- `reply::reply` meets its contract: an arm for each op, and the line of a broken feed. Assumes nothing.
use mathlib.Core.Path.{sym}
use native.Mathlib.Omega.{arith}
use lib.Seq.{length-take-le}
use Rattle.replay.specs.Replies.{broken}
use Rattle.program_reply.proofs.Replies.{put_told}
use Rattle.replay.proofs.Replying.{case_there, roomy, bytes_most, take_most, put_fitting, put_check, put_read, put_count, put_pick, put_write, put_tidy}
use Rattle.replay.proofs.reply.reply.Goals as goal

pub unwrap-requires : goal.unwrap-requires
unwrap-requires c =
    let p = c.put_broken.ensures in put_told _ _ _ _ (omega (arith, p.most, c.requires.1.1)) p.put

pub returns-in_default : goal.returns-in_default
returns-in_default c =
    let p = c.put_broken.ensures in
    let w = put_fitting _ _ (omega (arith, p.most, c.requires.1.1)) p.put c.unwrap.result c.unwrap.ensures in
    record { is = broken (sym c.in_default.ensures) w.0; within = w.1 }

pub bytes_behind-bytes-requires : goal.bytes_behind-bytes-requires
bytes_behind-bytes-requires c =
    (case_there c.args.feed.now _ c.in-Some.ensures).0

pub slice_bounds-checked-end : goal.slice_bounds-checked-end
slice_bounds-checked-end c =
    let k = roomy c.args.feed.now _ c.in-Some.ensures c.in-Check.is in
    omega (arith, k, c.requires.0)

pub slice_bounds-checked-end-in-Check : goal.slice_bounds-checked-end-in-Check
slice_bounds-checked-end-in-Check c =
    let k = roomy c.args.feed.now _ c.in-Some.ensures c.in-Check.is in
    sym (length-take-le _ c.args.buffer.now (omega (arith, k, c.requires.0)))

pub checked-requires : goal.checked-requires
checked-requires c =
    let k = roomy c.args.feed.now _ c.in-Some.ensures c.in-Check.is in
    (take_most _ _ _ k, omega (arith, c.requires.1.1))

pub slice_bounds-written-end : goal.slice_bounds-written-end
slice_bounds-written-end c =
    let k = roomy c.args.feed.now _ c.in-Some.ensures c.in-Write.is in
    omega (arith, k, c.requires.0)

pub slice_bounds-written-end-in-Write : goal.slice_bounds-written-end-in-Write
slice_bounds-written-end-in-Write c =
    let k = roomy c.args.feed.now _ c.in-Some.ensures c.in-Write.is in
    sym (length-take-le _ c.args.buffer.now (omega (arith, k, c.requires.0)))

pub written-requires : goal.written-requires
written-requires c =
    let k = roomy c.args.feed.now _ c.in-Some.ensures c.in-Write.is in
    (take_most _ _ _ k, omega (arith, c.requires.1.1))

pub measured-requires : goal.measured-requires
measured-requires c =
    omega (arith, c.requires.1.1)

pub tallied-requires : goal.tallied-requires
tallied-requires c =
    omega (arith, c.requires.1.1)

pub part_picked-requires : goal.part_picked-requires
part_picked-requires c =
    (bytes_most c.args.feed.now _ _ c.bytes_behind-bytes.ensures (case_there c.args.feed.now _ c.in-Some.ensures).1, omega (arith, c.requires.1.1))

pub slice_bounds-tidied-end : goal.slice_bounds-tidied-end
slice_bounds-tidied-end c =
    let k = roomy c.args.feed.now _ c.in-Some.ensures c.in-Tidy.is in
    omega (arith, k.0, c.requires.0)

pub slice_bounds-tidied-end-in-Tidy : goal.slice_bounds-tidied-end-in-Tidy
slice_bounds-tidied-end-in-Tidy c =
    let k = roomy c.args.feed.now _ c.in-Some.ensures c.in-Tidy.is in
    sym (length-take-le _ c.args.buffer.now (omega (arith, k.0, c.requires.0)))

pub slice_bounds-tidied-end-in-Tidy-2 : goal.slice_bounds-tidied-end-in-Tidy-2
slice_bounds-tidied-end-in-Tidy-2 c =
    let k = roomy c.args.feed.now _ c.in-Some.ensures c.in-Tidy.is in
    omega (arith, k.1, c.requires.1.0)

pub slice_bounds-tidied-end-in-Tidy-3 : goal.slice_bounds-tidied-end-in-Tidy-3
slice_bounds-tidied-end-in-Tidy-3 c =
    let k = roomy c.args.feed.now _ c.in-Some.ensures c.in-Tidy.is in
    sym (length-take-le _ c.args.second.now (omega (arith, k.1, c.requires.1.0)))

pub tidied-requires : goal.tidied-requires
tidied-requires c =
    let k = roomy c.args.feed.now _ c.in-Some.ensures c.in-Tidy.is in
    (take_most _ _ _ k.0, (take_most _ _ _ k.1, c.requires.1.1))

pub returns-in-Check : goal.returns-in-Check
returns-in-Check c =
    let k = roomy c.args.feed.now _ c.in-Some.ensures c.in-Check.is in
    record { is = put_check c.args.feed.now c.args.number _ c.in-Some.ensures _ c.bytes_behind-bytes.ensures _ _ c.in-Check.is _ _ (length-take-le _ c.args.buffer.now (omega (arith, k, c.requires.0))) c.checked.ensures.is; within = c.checked.ensures.within }

pub returns-in-Write : goal.returns-in-Write
returns-in-Write c =
    let k = roomy c.args.feed.now _ c.in-Some.ensures c.in-Write.is in
    record { is = put_write c.args.feed.now c.args.number _ c.in-Some.ensures _ c.bytes_behind-bytes.ensures _ _ c.in-Write.is _ _ (length-take-le _ c.args.buffer.now (omega (arith, k, c.requires.0))) c.written.ensures.is; within = c.written.ensures.within }

pub returns-in-Read : goal.returns-in-Read
returns-in-Read c =
    record { is = put_read c.args.feed.now c.args.number _ c.in-Some.ensures _ c.bytes_behind-bytes.ensures _ c.in-Read.is c.measured.ensures.is; within = c.measured.ensures.within }

pub returns-in-Count : goal.returns-in-Count
returns-in-Count c =
    record { is = put_count c.args.feed.now c.args.number _ c.in-Some.ensures _ c.bytes_behind-bytes.ensures _ c.in-Count.is c.tallied.ensures.is; within = c.tallied.ensures.within }

pub returns-in-Pick : goal.returns-in-Pick
returns-in-Pick c =
    record { is = put_pick c.args.feed.now c.args.number _ c.in-Some.ensures _ c.bytes_behind-bytes.ensures _ _ _ c.in-Pick.is c.part_picked.ensures.is; within = c.part_picked.ensures.within }

pub returns-in-Tidy : goal.returns-in-Tidy
returns-in-Tidy c =
    let k = roomy c.args.feed.now _ c.in-Some.ensures c.in-Tidy.is in
    record {
      is = put_tidy c.args.feed.now c.args.number _ c.in-Some.ensures _ c.bytes_behind-bytes.ensures _ _ _ c.in-Tidy.is _ _ _ _ (length-take-le _ c.args.buffer.now (omega (arith, k.0, c.requires.0)))
          (length-take-le _ c.args.second.now (omega (arith, k.1, c.requires.1.0))) c.tidied.ensures.is;
      within = c.tidied.ensures.within;
    }
