mod Lows
