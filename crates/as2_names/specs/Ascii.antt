-- The bytes that the texts of AS2 name.
use Rattle.std.specs.Prelude.{ℕ, Bool, ◌&&◌, nat_le}

-- b'\t'
abbrev pub tab : ℕ
tab = 9

-- LF
abbrev pub line_feed : ℕ
line_feed = 10

-- CR
abbrev pub carriage_return : ℕ
carriage_return = 13

-- b' '
abbrev pub space : ℕ
space = 32

-- b'"'
abbrev pub quote : ℕ
quote = 34

-- b'#'
abbrev pub number_sign : ℕ
number_sign = 35

-- b','
abbrev pub comma : ℕ
comma = 44

-- b'-'
abbrev pub hyphen : ℕ
hyphen = 45

-- b'.'
abbrev pub dot : ℕ
dot = 46

-- b'/'
abbrev pub slash : ℕ
slash = 47

-- b'0'
abbrev pub digit_zero : ℕ
digit_zero = 48

-- b'1'
abbrev pub digit_one : ℕ
digit_one = 49

-- b':'
abbrev pub colon : ℕ
colon = 58

-- b';'
abbrev pub semicolon : ℕ
semicolon = 59

-- b'<'
abbrev pub open_angle : ℕ
open_angle = 60

-- b'='
abbrev pub equals_sign : ℕ
equals_sign = 61

-- b'>'
abbrev pub close_angle : ℕ
close_angle = 62

-- b'?'
abbrev pub question_mark : ℕ
question_mark = 63

-- b'\\'
abbrev pub backslash : ℕ
backslash = 92

-- b'~'
abbrev pub tilde : ℕ
tilde = 126

-- b'\x7f'
abbrev pub del : ℕ
del = 127

-- a printable byte, the space among them
abbrev pub is_printable : ℕ → Bool
is_printable b = nat_le space b && nat_le b tilde
