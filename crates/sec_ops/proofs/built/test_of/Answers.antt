use Rattle.std.proofs.Common.{◌≡◌, Bool, true, false, List, ℕ, [], ◌∙◌, ap, subst}
use Rattle.std.specs.Prelude.{IfErr, OnOk, is_none}
use Rattle.sec_ast.specs.declared.operator.OpKind.TheVariants.{Pm, IpMatch, ValidateByteRange}
use Rattle.sec_ops.specs.declared.built.BuildFault.TheVariants.{BadPattern}
use Rattle.sec_ops.specs.Hits.{bytes_hit, bytes_reading, hit, is_unread_op, hit_of, pattern_hit, source_of, source_reading}
use Rattle.sec_ops.proofs.Meanings.{addresses_read, bytes_same, carried, carried_any, never_unread, phrases_read, ranges_read, unread_bytes, unread_rx, pattern_same, phrases_same, addresses_same, ranges_same, plain_hit}
use Rattle.sec_ops.proofs.built.test_of.Goals as goal

pub returns-in-Rx-clause-ok : goal.returns-in-Rx-clause-ok
returns-in-Rx-clause-ok c =
    let op = c.args.op.now in
    carried c.pattern_test.result (λ (a v : List ℕ). pattern_hit c.source_of.result.now v) (hit op)
    (pattern_same op c.source_of.result.now c.in-Rx.is (c.source_of.ensures ∙ ap source_of c.as_slice.ensures)) c.pattern_test.ensures.ok

pub returns-in-Rx-clause-bad : goal.returns-in-Rx-clause-bad
returns-in-Rx-clause-bad c =
    let op = c.args.op.now in
    let same : is_none (source_reading c.source_of.result.now) ≡ is_unread_op op.kind (source_of op.text) =
    ap (λ (l : List ℕ). is_none (source_reading l)) (c.source_of.ensures ∙ ap source_of c.as_slice.ensures) ∙ unread_rx op.kind (source_of op.text) c.in-Rx.is in
    subst (λ (b : Bool). IfErr c.pattern_test.result (λ e. e ≡ BadPattern → b ≡ true)) same c.pattern_test.ensures.bad

pub returns-in-Rx-clause-read : goal.returns-in-Rx-clause-read
returns-in-Rx-clause-read c =
    let op = c.args.op.now in
    let same : is_none (source_reading c.source_of.result.now) ≡ is_unread_op op.kind (source_of op.text) =
    ap (λ (l : List ℕ). is_none (source_reading l)) (c.source_of.ensures ∙ ap source_of c.as_slice.ensures) ∙ unread_rx op.kind (source_of op.text) c.in-Rx.is in
    subst (λ (b : Bool). OnOk c.pattern_test.result (b ≡ false)) same c.pattern_test.ensures.read

pub returns-in-RxBytes-clause-ok : goal.returns-in-RxBytes-clause-ok
returns-in-RxBytes-clause-ok c =
    let op = c.args.op.now in
    carried c.bytes_test.result (λ (a v : List ℕ). bytes_hit c.source_of-in-RxBytes.result.now v) (hit op)
    (bytes_same op c.source_of-in-RxBytes.result.now c.in-RxBytes.is (c.source_of-in-RxBytes.ensures ∙ ap source_of c.as_slice-in-RxBytes.ensures)) c.bytes_test.ensures.ok

pub returns-in-RxBytes-clause-bad : goal.returns-in-RxBytes-clause-bad
returns-in-RxBytes-clause-bad c =
    let op = c.args.op.now in
    let same : is_none (bytes_reading c.source_of-in-RxBytes.result.now) ≡ is_unread_op op.kind (source_of op.text) =
    ap (λ (l : List ℕ). is_none (bytes_reading l)) (c.source_of-in-RxBytes.ensures ∙ ap source_of c.as_slice-in-RxBytes.ensures) ∙ unread_bytes op.kind (source_of op.text) c.in-RxBytes.is in
    subst (λ (b : Bool). IfErr c.bytes_test.result (λ e. e ≡ BadPattern → b ≡ true)) same c.bytes_test.ensures.bad

pub returns-in-RxBytes-clause-read : goal.returns-in-RxBytes-clause-read
returns-in-RxBytes-clause-read c =
    let op = c.args.op.now in
    let same : is_none (bytes_reading c.source_of-in-RxBytes.result.now) ≡ is_unread_op op.kind (source_of op.text) =
    ap (λ (l : List ℕ). is_none (bytes_reading l)) (c.source_of-in-RxBytes.ensures ∙ ap source_of c.as_slice-in-RxBytes.ensures) ∙ unread_bytes op.kind (source_of op.text) c.in-RxBytes.is in
    subst (λ (b : Bool). OnOk c.bytes_test.result (b ≡ false)) same c.bytes_test.ensures.read

pub returns-in-Pm-clause-ok : goal.returns-in-Pm-clause-ok
returns-in-Pm-clause-ok c =
    let op = c.args.op.now in carried_any c.phrases_test.result (hit_of Pm [] op.words) (hit op) (phrases_same op c.in-Pm.is) c.phrases_test.ensures.ok

pub returns-in-Pm-clause-read : goal.returns-in-Pm-clause-read
returns-in-Pm-clause-read c = phrases_read c.phrases_test.result c.args.op.now c.in-Pm.is

pub returns-in-IpMatch-clause-read : goal.returns-in-IpMatch-clause-read
returns-in-IpMatch-clause-read c = addresses_read c.addresses_test.result c.args.op.now c.in-IpMatch.is

pub returns-in-ValidateByteRange-clause-read : goal.returns-in-ValidateByteRange-clause-read
returns-in-ValidateByteRange-clause-read c = ranges_read c.ranges_test.result c.args.op.now c.in-ValidateByteRange.is

pub returns-in-IpMatch-clause-ok : goal.returns-in-IpMatch-clause-ok
returns-in-IpMatch-clause-ok c =
    let op = c.args.op.now in carried_any c.addresses_test.result (hit_of IpMatch [] op.words) (hit op) (addresses_same op c.in-IpMatch.is) c.addresses_test.ensures.ok

pub returns-in-IpMatch-clause-word : goal.returns-in-IpMatch-clause-word
returns-in-IpMatch-clause-word c = λ at kind bad. c.addresses_test.ensures.word at bad

pub returns-in-ValidateByteRange-clause-ok : goal.returns-in-ValidateByteRange-clause-ok
returns-in-ValidateByteRange-clause-ok c =
    let op = c.args.op.now in carried_any c.ranges_test.result (hit_of ValidateByteRange [] op.words) (hit op) (ranges_same op c.in-ValidateByteRange.is) c.ranges_test.ensures.ok

pub returns-in_default : goal.returns-in_default
returns-in_default c =
    let op = c.args.op.now in
    let not = c.in_default in
    record {
      ok = λ argument value bytes. plain_hit op.kind (source_of op.text) op.words argument value not.not-Rx not.not-RxBytes not.not-Pm not.not-IpMatch not.not-ValidateByteRange;
      bad = tt;
      read = never_unread op.kind (source_of op.text) not.not-Rx not.not-RxBytes;
      word = λ at kind bad. absurd (not.not-IpMatch kind);
    }
