-- The lines of a picture that are always the same: its colours and letters, its grid, and the page around it.
use Rattle.std.specs.Prelude.{ℕ, List, ◌++◌, codes}
use Rattle.plan_report.specs.Lines.{newline}

-- the colours and letters of a picture, on white; red, blue, yellow and green are told apart also by people who do not see red and green alike
abbrev pub style : List ℕ
style = codes "<style>text{font-family:Arial,Helvetica,sans-serif}.title{font-size:28px;font-weight:bold}.name{font-size:22px;font-weight:bold}.type{font-size:18px;font-weight:normal;fill:#444}.share{font-size:15px;fill:#222}.date{font-size:22px;font-weight:bold}.hour{font-size:16px;fill:#444}.again{font-size:13px;fill:#777}.id{font-size:16px;text-anchor:middle}.port{font-size:13px;fill:#222}.to{text-anchor:end}.flight rect,.ground rect{stroke:#fff;stroke-width:2}.flight rect{fill:#88ccee}.ground rect{fill:#ddcc77}.red rect{fill:#bb2200;fill-opacity:.85}.red .id{fill:#fff;font-weight:bold}.rule{font-size:16px;font-weight:bold}.rule,.broken{fill:#bb2200}.turn{fill:#225588}.stop rect{fill:#b5ddd0}.curfew{fill:#aa4499;opacity:.18}.line{stroke:#888}</style><rect width='100%' height='100%' fill='#fff'/>" ++ newline

-- the outline of a bar whose activity is moved, and the letters that say how many are; it stands behind the other colours, so it covers their outline
abbrev pub moved_style : List ℕ
moved_style = codes "<style>.moved rect{stroke:#332288;stroke-width:6}.moves{font-size:22px;font-weight:bold;fill:#332288}</style>" ++ newline

-- a line for each hour, for each six hours and for each day, and in each row the hours 6, 12 and 18
abbrev pub grid_patterns : List ℕ
grid_patterns = codes "<defs><pattern id='hours' patternUnits='userSpaceOnUse' width='60' height='60'><path d='M.5 0V60' stroke='#e0e0e0'/></pattern><pattern id='sixes' patternUnits='userSpaceOnUse' width='360' height='60'><path d='M1 0V60' stroke='#bbb' stroke-width='2'/></pattern><pattern id='days' patternUnits='userSpaceOnUse' y='10' width='1440' height='100'><path d='M1.5 0V100' stroke='#444' stroke-width='3'/><g class='again'><text x='364' y='18'>06</text><text x='724' y='18'>12</text><text x='1084' y='18'>18</text></g></pattern></defs>" ++ newline

-- the hours of a day
abbrev pub clock : List ℕ
clock = codes "<defs><pattern id='clock' patternUnits='userSpaceOnUse' x='340' y='90' width='1440' height='30'><g class='hour'><text x='4' y='24'>00</text><text x='64' y='24'>01</text><text x='124' y='24'>02</text><text x='184' y='24'>03</text><text x='244' y='24'>04</text><text x='304' y='24'>05</text><text x='364' y='24'>06</text><text x='424' y='24'>07</text><text x='484' y='24'>08</text><text x='544' y='24'>09</text><text x='604' y='24'>10</text><text x='664' y='24'>11</text><text x='724' y='24'>12</text><text x='784' y='24'>13</text><text x='844' y='24'>14</text><text x='904' y='24'>15</text><text x='964' y='24'>16</text><text x='1024' y='24'>17</text><text x='1084' y='24'>18</text><text x='1144' y='24'>19</text><text x='1204' y='24'>20</text><text x='1264' y='24'>21</text><text x='1324' y='24'>22</text><text x='1384' y='24'>23</text></g></pattern></defs><text class='hour' x='296' y='114'>UTC</text>" ++ newline

-- around what strips show parts of: it is drawn where they refer to it
abbrev pub whole_open : List ℕ
whole_open = codes "<defs><g id='all'>" ++ newline

-- and its end
abbrev pub whole_close : List ℕ
whole_close = codes "</g></defs>" ++ newline

-- the end of a picture
abbrev pub close : List ℕ
close = codes "</svg>" ++ newline

-- a page around a picture
abbrev pub html_open : List ℕ
html_open = codes "<!DOCTYPE html><html lang='en'><head><meta charset='utf-8'><title>tailview</title></head><body style='margin:0'>" ++ newline

-- and its end
abbrev pub html_close : List ℕ
html_close = codes "</body></html>" ++ newline
