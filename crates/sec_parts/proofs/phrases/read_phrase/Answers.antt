use Rattle.std.proofs.Common.{rules}
use Rattle.sec_parts.proofs.PhraseLoop.{reads_nothing, reads_more, reads_ends, reads_stops}
use Rattle.sec_parts.proofs.phrases.read_phrase.Goals as goal

pub loop-bytes-init : goal.loop-bytes-init
loop-bytes-init c = rw c.new-bytes.ensures (reads_nothing c.args.word.now)

pub loop-bytes-preserved : goal.loop-bytes-preserved
loop-bytes-preserved c =
    let step = rw c.in-Some.is at c.in_ok-part.ensures.part in
    let less = rw c.in-Some.is at c.in_ok-part.ensures.shorter in
    rw (c.in_ok-append.ensures.ok, c.as_slice.ensures) (reads_more c.args.word.now c.loop-bytes.bytes c.loop-bytes.rest.now c.in-Some.part c.in-Some.after.now c.loop-bytes.invariant step less)

pub returns-in_default : goal.returns-in_default
returns-in_default c =
    let step = rw c.in_default.is at c.in_ok-part.ensures.part in
    reads_ends c.args.word.now c.loop-bytes.bytes c.loop-bytes.rest.now c.loop-bytes.invariant step

pub returns-in_err-part : goal.returns-in_err-part
returns-in_err-part c =
    let fault = reads_stops c.in_err-part.field-0.0 c.args.word.now c.loop-bytes.bytes c.loop-bytes.rest.now c.loop-bytes.invariant c.in_err-part.ensures.part in
    search (rules, fault)
