-- The payloads of a script are short.
use Rattle.std.proofs.Common.{ℕ, ◌+◌, ◌%◌, ◌≤◌, ◌<◌, ◌^◌, Bool, true, false, cond, eqb, codes, List, [], ◌∷◌, ◌++◌, length, replicate, arith, length-append}
use Rattle.std.proofs.lemmas.List.{length-replicate}
use Rattle.std.proofs.lemmas.Fmt.{length-decimal-le}
use Rattle.std.specs.Fmt.{decimal}
use Rattle.spop_varint.proofs.Laws.{short_enough}
use Rattle.spop_data.specs.Writing.{counted, number_bytes, pair_bytes}
use Rattle.spop_data.proofs.Written.{number}
use Rattle.std.specs.Int.{to_be_bytes, w32}
use Rattle.spop_frame.specs.Writing.{body_bytes, frame_bytes}
use Rattle.spop_frame.specs.declared.frame.Frame.{Frame}
use Rattle.workload.specs.Messages.{IsSmall, answered, request_bytes, hello_payload, id_of, method_of, number_pair, query_of, request_payload, response_payload, status_of, text_pair, whole}
use Rattle.spop_frame.specs.declared.kind.TheConstants.{NOTIFY}
use Rattle.workload.specs.declared.messages.TheConstants.{REQUEST}
use Rattle.workload.specs.declared.turn.Turn.{Turn}

number_short : (n : ℕ) → n < 2 ^ 64 → length (number_bytes n) ≤ 10
number_short n small = short_enough (number_bytes n) n (number n small)

counted_short : (text : List ℕ) (most : ℕ) → length text ≤ most → most < 2000 → length (counted text) ≤ most + 10
counted_short text most few some = omega (arith, length-append (number_bytes (length text)) text, number_short (length text) (omega arith))

text_short : (name text : List ℕ) (most : ℕ) → length name ≤ 20 → length text ≤ most → most < 2000 → length (pair_bytes (text_pair name text)) ≤ most + 41
text_short name text most few some limit =
    omega (arith, length-append (counted name) (8 ∷ counted text), counted_short name 20 few (omega arith), counted_short text most some limit)

number_pair_short : (name : List ℕ) (n : ℕ) → length name ≤ 20 → n < 2 ^ 64 → length (pair_bytes (number_pair name n)) ≤ 41
number_pair_short name n few small =
    omega (arith, length-append (counted name) (3 ∷ number_bytes n), counted_short name 20 few (omega arith), number_short n small)

three : (x y z : List ℕ) → length x ≤ 200 → length y ≤ 200 → length z ≤ 200 → length (x ++ (y ++ (z ++ []))) ≤ 600
three x y z p q r = omega (arith, length-append x (y ++ (z ++ [])), length-append y (z ++ []), length-append z [])

two : (n : ℕ) (w x y : List ℕ) → length w ≤ 200 → length x ≤ 200 → length y ≤ 200 → length (w ++ (n ∷ (x ++ (y ++ [])))) ≤ 601
two n w x y p q r = omega (arith, length-append w (n ∷ (x ++ (y ++ []))), length-append x (y ++ []), length-append y [])

four : (n : ℕ) (v w x y z : List ℕ) → length v ≤ 100 → length w ≤ 100 → length x ≤ 100 → length y ≤ 100 → length z ≤ 1100 → length (v ++ (n ∷ (w ++ (x ++ (y ++ (z ++ [])))))) ≤ 1501
four n v w x y z o p q r s =
    omega (arith, length-append v (n ∷ (w ++ (x ++ (y ++ (z ++ []))))), length-append w (x ++ (y ++ (z ++ []))), length-append x (y ++ (z ++ [])), length-append y (z ++ []), length-append z [])

pub hello_small : IsSmall hello_payload
unfolding hello_payload
hello_small =
    let a : length (pair_bytes (text_pair (codes "supported-versions") (codes "2.0"))) ≤ 3 + 41 = text_short (codes "supported-versions") (codes "2.0") 3 (omega arith) (omega arith) (omega arith) in
    let b : length (pair_bytes (number_pair (codes "max-frame-size") 16380)) ≤ 41 = number_pair_short (codes "max-frame-size") 16380 (omega arith) (omega arith) in
    let c : length (pair_bytes (text_pair (codes "capabilities") (codes "pipelining"))) ≤ 10 + 41 = text_short (codes "capabilities") (codes "pipelining") 10 (omega arith) (omega arith) (omega arith) in
    let all = three (pair_bytes (text_pair (codes "supported-versions") (codes "2.0"))) (pair_bytes (number_pair (codes "max-frame-size") 16380)) (pair_bytes (text_pair (codes "capabilities") (codes "pipelining"))) (omega arith) (omega arith) (omega arith) in
    omega (arith, all)

id_short : (n : ℕ) → n < 2 ^ 64 → length (id_of n) ≤ 21
id_short n small = omega (arith, length-append (codes "t") (decimal n), length-decimal-le 20 n (omega arith) (omega arith) small)

either_short : (b : Bool) (x y : List ℕ) → length x ≤ 4 → length y ≤ 4 → length (cond b x y) ≤ 4
either_short true x y p q = p
either_short false x y p q = q

query_short : (t : Turn) → length (query_of t) ≤ 1026
query_short t =
    let n = t.query % 1024 in
    omega (arith, length-append (codes "q=") (replicate n 120), length-replicate {A = ℕ} n 120)

either_number : (b : Bool) (x y : ℕ) → x ≤ 500 → y ≤ 500 → cond b x y ≤ 500
either_number true x y p q = p
either_number false x y p q = q

pub request_small : (t : Turn) → t.number < 2 ^ 64 → IsSmall (request_payload t)
unfolding request_payload
request_small t small =
    let name : length (counted (codes "coraza-req")) ≤ 10 + 10 = counted_short (codes "coraza-req") 10 (omega arith) (omega arith) in
    let a = text_short (codes "id") (id_of t.number) 21 (omega arith) (id_short t.number small) (omega arith) in
    let b = text_short (codes "method") (method_of t) 4 (omega arith) (either_short (eqb (t.method % 4) 1) (codes "POST") (codes "GET") (omega arith) (omega arith)) (omega arith) in
    let c = text_short (codes "path") (codes "/p") 2 (omega arith) (omega arith) (omega arith) in
    let d = text_short (codes "query") (query_of t) 1026 (omega arith) (query_short t) (omega arith) in
    let all =
    four 4 (counted (codes "coraza-req")) (pair_bytes (text_pair (codes "id") (id_of t.number))) (pair_bytes (text_pair (codes "method") (method_of t))) (pair_bytes (text_pair (codes "path") (codes "/p"))) (pair_bytes (text_pair (codes "query") (query_of t)))
    (omega arith) (omega (arith, a)) (omega (arith, b)) (omega (arith, c)) (omega (arith, d)) in
    omega (arith, all)

pub response_small : (t : Turn) → answered t < 2 ^ 64 → IsSmall (response_payload t)
unfolding response_payload
response_small t small =
    let name : length (counted (codes "coraza-res")) ≤ 10 + 10 = counted_short (codes "coraza-res") 10 (omega arith) (omega arith) in
    let a = text_short (codes "id") (id_of (answered t)) 21 (omega arith) (id_short (answered t) small) (omega arith) in
    let few : status_of t ≤ 500 = either_number (eqb (t.status % 5) 0) 500 200 (omega arith) (omega arith) in
    let b = number_pair_short (codes "status") (status_of t) (omega arith) (omega (arith, few)) in
    let all =
    two 2 (counted (codes "coraza-res")) (pair_bytes (text_pair (codes "id") (id_of (answered t)))) (pair_bytes (number_pair (codes "status") (status_of t)))
    (omega arith) (omega (arith, a)) (omega (arith, b)) in
    omega (arith, all)

-- a frame has the bytes of its length at least
frame_some : (f : Frame) → 0 < length (frame_bytes f)
frame_some f = omega (arith, length-append (to_be_bytes w32 (length (body_bytes f))) (body_bytes f))

pub request_some : (t : Turn) → 0 < length (request_bytes t)
unfolding request_bytes
request_some t = frame_some (whole NOTIFY t.number REQUEST (request_payload t))
