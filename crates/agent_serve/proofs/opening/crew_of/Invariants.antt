use Rattle.std.proofs.Common.{◌≡◌, ◌+◌, ◌≤◌, ℕ, length, vec_capacity}
use Rattle.std.specs.List.{All}
use Rattle.agent_serve.specs.Crew.{IsMember}
use Rattle.agent_serve.specs.Opening.{IsShared}
use Rattle.agent_serve.proofs.opening.crew_of.Given as goal

abbrev pub invariant-loop : goal.invariant-loop
invariant-loop l = record {
  room : vec_capacity l.crew ≡ vec_capacity l.initial.crew;
  count : length l.crew.items ≡ l.counter;
  members : All (IsMember l.desk l.rules) l.crew.items;
  shared : (n : ℕ) → n + l.counter ≤ 65 → IsShared n l.desk l.desk_pass l.rules l.rules_pass;
}
