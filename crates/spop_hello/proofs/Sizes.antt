-- The payloads of an agent's HELLO and DISCONNECT are short, and their frames are read again.
use Rattle.std.proofs.Common.{ℕ, ◌+◌, ◌≤◌, ◌<◌, ◌^◌, Bool, true, false, cond, eqb, codes, List, [], ◌∷◌, ◌++◌, length, Option, Some, None, unwrap_or, arith, length-append}
use Rattle.spop_varint.proofs.Laws.{short_enough}
use Rattle.spop_data.specs.Writing.{counted, number_bytes, pair_bytes}
use Rattle.spop_data.proofs.Written.{number}
use Rattle.spop_hello.specs.Frames.{text_pair, number_pair, message_of, hello_payload, disconnect_payload}
use Rattle.spop_hello.specs.declared.terms.Terms.{Terms}

number_short : (n : ℕ) → n < 2 ^ 64 → length (number_bytes n) ≤ 10
number_short n small = short_enough (number_bytes n) n (number n small)

counted_short : (text : List ℕ) (most : ℕ) → length text ≤ most → most < 100 → length (counted text) ≤ most + 10
counted_short text most few some = omega (arith, length-append (number_bytes (length text)) text, number_short (length text) (omega arith))

text_short : (name text : List ℕ) (most : ℕ) → length name ≤ 20 → length text ≤ most → most < 100 → length (pair_bytes (text_pair name text)) ≤ most + 41
text_short name text most few some limit =
    omega (arith, length-append (counted name) (8 ∷ counted text), counted_short name 20 few (omega arith), counted_short text most some limit)

number_pair_short : (name : List ℕ) (n : ℕ) → length name ≤ 20 → n < 2 ^ 64 → length (pair_bytes (number_pair name n)) ≤ 41
number_pair_short name n few small =
    omega (arith, length-append (counted name) (3 ∷ number_bytes n), counted_short name 20 few (omega arith), number_short n small)

pub capability_short : (b : Bool) → length (cond b (codes "pipelining") []) ≤ 10
capability_short true = omega arith
capability_short false = omega arith

pub hello_short : (t : Terms) → t.size < 2 ^ 64 → length (hello_payload t) ≤ 200
unfolding hello_payload
hello_short t small =
    let a : length (pair_bytes (text_pair (codes "version") (codes "2.0"))) ≤ 3 + 41 = text_short (codes "version") (codes "2.0") 3 (omega arith) (omega arith) (omega arith) in
    let b : length (pair_bytes (number_pair (codes "max-frame-size") t.size)) ≤ 41 = number_pair_short (codes "max-frame-size") t.size (omega arith) small in
    let c : length (pair_bytes (text_pair (codes "capabilities") (cond t.pipelining (codes "pipelining") []))) ≤ 10 + 41 = text_short (codes "capabilities") _ 10 (omega arith) (capability_short t.pipelining) (omega arith) in
    three (pair_bytes (text_pair (codes "version") (codes "2.0"))) (pair_bytes (number_pair (codes "max-frame-size") t.size)) (pair_bytes (text_pair (codes "capabilities") (cond t.pipelining (codes "pipelining") []))) (omega arith) (omega arith) (omega arith)
  where
    three : (x y z : List ℕ) → length x ≤ 60 → length y ≤ 60 → length z ≤ 60 → length (x ++ (y ++ (z ++ []))) ≤ 200
    three x y z p q r = omega (arith, length-append x (y ++ (z ++ [])), length-append y (z ++ []), length-append z [])

step : (b : Bool) (text : List ℕ) (other : Option (List ℕ)) → length text ≤ 30 → length (unwrap_or other []) ≤ 30 → length (unwrap_or (cond b (Some text) other) []) ≤ 30
step true text other p q = p
step false text other p q = q

pub message_short : (status : ℕ) → length (unwrap_or (message_of status) []) ≤ 30
message_short s =
    step (eqb s 0) (codes "normal") _ (omega arith) (step (eqb s 3) (codes "frame too big") _ (omega arith) (step (eqb s 4) (codes "invalid frame") _ (omega arith)
    (step (eqb s 5) (codes "version not found") _ (omega arith) (step (eqb s 6) (codes "max-frame-size not found") _ (omega arith) (step (eqb s 7) (codes "capabilities not found") _ (omega arith)
    (step (eqb s 8) (codes "unsupported version") _ (omega arith) (step (eqb s 9) (codes "bad max-frame-size") _ (omega arith) (step (eqb s 10) (codes "fragmentation not supported") _ (omega arith)
    (step (eqb s 13) (codes "resource allocation error") None (omega arith) (omega arith))))))))))

pub disconnect_short : (status : ℕ) → status < 2 ^ 64 → length (disconnect_payload status) ≤ 200
unfolding disconnect_payload
disconnect_short status small =
    let text = unwrap_or (message_of status) [] in
    let a : length (pair_bytes (number_pair (codes "status-code") status)) ≤ 41 = number_pair_short (codes "status-code") status (omega arith) small in
    let b : length (pair_bytes (text_pair (codes "message") text)) ≤ 30 + 41 = text_short (codes "message") text 30 (omega arith) (message_short status) (omega arith) in
    two (pair_bytes (number_pair (codes "status-code") status)) (pair_bytes (text_pair (codes "message") text)) (omega arith) (omega arith)
  where
    two : (x y : List ℕ) → length x ≤ 80 → length y ≤ 80 → length (x ++ (y ++ [])) ≤ 200
    two x y p q = omega (arith, length-append x (y ++ []), length-append y [])
