-- The numbers that the protocol has for errors. `negsuc n` is -(n + 1).
use Rattle.std.specs.Prelude.{ℤ, negsuc}

-- -32700: the content isn't JSON
abbrev pub no_json : ℤ
no_json = negsuc 32699

-- -32600: no such message is expected, or it has no length, or is too long
abbrev pub invalid_request : ℤ
invalid_request = negsuc 32599

-- -32601: there is no such method
abbrev pub no_method : ℤ
no_method = negsuc 32600

-- -32603: memory ran out
abbrev pub internal_error : ℤ
internal_error = negsuc 32602

-- -32002: `initialize` has to come first
abbrev pub not_initialized : ℤ
not_initialized = negsuc 32001
