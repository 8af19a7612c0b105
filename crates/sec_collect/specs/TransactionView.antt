-- What the rows of a transaction are made from.
use Rattle.std.specs.Prelude.{List, [], Option, None}
use Rattle.sec_ast.specs.declared.settings.Processor.{Processor}
use Rattle.sec_ast.specs.declared.settings.Processor.TheVariants.{Plain}
use Rattle.web_parts.specs.declared.row.NameValue.{NameValue}
use Rattle.web_parts.specs.declared.transaction.Request.{Request}
use Rattle.sec_collect.specs.declared.parts.OpenedBody.{OpenedBody}
use Rattle.sec_collect.specs.declared.parts.AddedResponse.{AddedResponse}

pub record TransactionView : Type 0 where
  pub request : Request
  -- the processor that `ctl` chose, `Plain` where none did
  pub processor : Processor
  -- once it is opened
  pub body : Option OpenedBody
  -- once it is there
  pub response : Option AddedResponse
  -- the variables of TX, in the order in which they were first put
  pub tx : List NameValue
  -- the captured texts, named by the numbers of their groups
  pub captured : List NameValue
  -- full names and values, in the order in which they matched
  pub matched : List NameValue

-- a transaction of which only the request is known
abbrev pub of_request : Request → TransactionView
of_request request = record {
  request = request;
  processor = Plain;
  body = None;
  response = None;
  tx = [];
  captured = [];
  matched = [];
}
