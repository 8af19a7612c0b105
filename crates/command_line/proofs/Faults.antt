-- What clap's refusal comes to.
use Rattle.std.proofs.Common.{◌≡◌, ◌≢◌, [], ◌∷◌, inl, inr, refl}
use Rattle.clap.specs.Words.{HasKind, Kinds, kind_of}
use Rattle.clap.specs.declared.error.Error.{Error}
use Rattle.clap.specs.declared.error.kind.ErrorKind.TheVariants.{OutOfMemory}
use Rattle.command_line.specs.Words.{without_fault}
use Rattle.command_line.specs.declared.command.Command.{Command}
use Rattle.command_line.specs.declared.command.Command.TheVariants.{Other}

-- an error that is not of memory has a cause
pub at_fault : (kinds : Kinds) (error : Error) (command : Command) → HasKind kinds error → kind_of error ≢ OutOfMemory
    → Other ≡ without_fault kinds command
at_fault [] error command (inl memory) other = absurd (other memory)
at_fault [] error command (inr among) other = absurd among
at_fault (kind ∷ kinds) error command has other = refl
