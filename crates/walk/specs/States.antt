-- The state of the code's walk as the rules' state, or none where the allowance is used up.
use Rattle.std.specs.Prelude.{◌^◌, cond, ltb, Option, None, Some}
use Rattle.std.proofs.Math.Option as rules
use Rattle.rules.specs.Level.{Best, nothing, best}
use Rattle.rules.specs.Walk.{State, keep_best}
use Rattle.word.specs.Words.{word_of}
use Rattle.walk.specs.declared.state.Walked.{Walked}

-- the best word kept: a distance of more than 32 bits says that there is none
abbrev pub kept_of : Walked → Best
kept_of s = cond (ltb s.distance (2 ^ 32)) (best s.distance (word_of s.word)) nothing

-- what was kept, and the visits
abbrev pub running_of : Walked → State keep_best
running_of s = record { kept = kept_of s; visits = s.visits }

-- the state that a walk ended with, or none where the allowance is used up
abbrev pub state_of : Option Walked → rules.Option (State keep_best)
state_of None = rules.none
state_of (Some s) = rules.some (running_of s)

-- no best word and no visit
abbrev pub empty : State keep_best
empty = record { kept = nothing; visits = 0 }
