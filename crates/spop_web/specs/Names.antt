-- The names of arguments.
use Rattle.std.specs.Prelude.{ℕ, List, codes}
use Rattle.spop_web.specs.declared.argument.Arg.{Arg}
use Rattle.spop_web.specs.declared.argument.Arg.TheVariants as arguments

abbrev pub name_of : Arg → List ℕ
name_of arguments.Id = codes "id"
name_of arguments.App = codes "app"
name_of arguments.SrcIp = codes "src-ip"
name_of arguments.DstIp = codes "dst-ip"
name_of arguments.SrcPort = codes "src-port"
name_of arguments.DstPort = codes "dst-port"
name_of arguments.Method = codes "method"
name_of arguments.Path = codes "path"
name_of arguments.Query = codes "query"
name_of arguments.Status = codes "status"
name_of arguments.Version = codes "version"
name_of arguments.Headers = codes "headers"
name_of arguments.Body = codes "body"
