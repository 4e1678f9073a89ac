-- The names of methods.
use Rattle.std.specs.Prelude.{◌≢◌, ℕ, List, codes}
use Rattle.nova_lsp.specs.declared.method.Method.{Method}
use Rattle.nova_lsp.specs.declared.method.Method.TheVariants.{Hover, Definition, References, DocumentHighlight, DocumentSymbol, Formatting, FoldingRange, PrepareRename, Rename, Completion, SignatureHelp, CodeAction, InlayHint}

-- how the protocol writes a method about a document
abbrev pub name_of : Method → List ℕ
name_of Hover = codes "textDocument/hover"
name_of Definition = codes "textDocument/definition"
name_of References = codes "textDocument/references"
name_of DocumentHighlight = codes "textDocument/documentHighlight"
name_of DocumentSymbol = codes "textDocument/documentSymbol"
name_of Formatting = codes "textDocument/formatting"
name_of FoldingRange = codes "textDocument/foldingRange"
name_of PrepareRename = codes "textDocument/prepareRename"
name_of Rename = codes "textDocument/rename"
name_of Completion = codes "textDocument/completion"
name_of SignatureHelp = codes "textDocument/signatureHelp"
name_of CodeAction = codes "textDocument/codeAction"
name_of InlayHint = codes "textDocument/inlayHint"

-- no method about a document has this name
abbrev pub NamesNone : List ℕ → Type 0
NamesNone text = (method : Method) → text ≢ name_of method

-- the methods that begin a session and that end it
abbrev pub initialize : List ℕ
initialize = codes "initialize"

abbrev pub shutdown : List ℕ
shutdown = codes "shutdown"

abbrev pub exit : List ℕ
exit = codes "exit"
